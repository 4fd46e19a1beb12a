-- How a name is kept: its characters, and zeros behind them up to eight.
use Rattle.std.specs.Prelude.{◌≡◌, ℕ, ◌-◌, ◌≤◌, List, ◌++◌, length, take, drop, replicate, true}
use Rattle.std.proofs.Common.{arith, sym, ap, ◌∙◌}
use Rattle.std.proofs.lemmas.List.{take-append-drop, length-take-le}
use Rattle.levels.specs.declared.name.LevelName.TheInside.{Inside}
use Rattle.levels.specs.Names.{is_level_name}

abbrev pub text_of : Inside → List ℕ
text_of a = take a.length a.text

pub record IsPadded (a : Inside) : Type 0 where
  pub short : a.length ≤ 8
  pub wide : length a.text ≡ 8
  pub zeros : drop a.length a.text ≡ replicate (8 - a.length) 0
  pub name : is_level_name (take a.length a.text) ≡ true

abbrev pub with_zeros : List ℕ → ℕ → Inside
with_zeros text n = record { length = n; text = text ++ replicate (8 - n) 0 }

abbrev pub inside_of : List ℕ → Inside
inside_of text = with_zeros text (length text)

pub inside_of-text_of : (a : Inside) → IsPadded a → inside_of (text_of a) ≡ a
inside_of-text_of a h =
    let n : length (take a.length a.text) ≡ a.length =
    length-take-le a.length a.text (omega (arith, h.wide, h.short)) in
    ap (with_zeros (text_of a)) n
    ∙ ap (λ (t : List ℕ). record { length = a.length; text = t })
    (ap (λ (z : List ℕ). text_of a ++ z) (sym h.zeros) ∙ take-append-drop a.length a.text)
