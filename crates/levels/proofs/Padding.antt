-- Names with zeros behind them.
use Rattle.std.proofs.Common.{◌≡◌, ℕ, ◌≤◌, List, ◌++◌, length, drop, true, ◌∙◌, ap, arith, length-append, length-drop}
use Rattle.std.specs.Prelude.{replicate}
use Rattle.std.proofs.lemmas.Bool.Decides.{nat_tests}
use Rattle.std.proofs.lemmas.List.{take_at, drop_at, drop-replicate}
use Rattle.levels.specs.Names.{is_level_name}
use Rattle.levels.specs.inside.LevelNames.{IsPadded}

pub name_is_short : (text : List ℕ) → is_level_name text ≡ true → length text ≤ 8
name_is_short text h = grind (arith, nat_tests)

-- a name with zeros behind it
pub padded_name : (text kept : List ℕ) → is_level_name text ≡ true → kept ≡ text
    → IsPadded (record { length = length text; text = kept ++ drop (length text) (replicate 8 0) })
padded_name text kept name same =
    let short = name_is_short text name in
    let len : length kept ≡ length text = ap length same in
    record {
      short = short;
      wide = length-append kept (drop (length text) (replicate 8 0))
          ∙ omega (arith, length-drop {A = ℕ} (length text) (replicate 8 0));
      zeros = drop_at kept _ (length text) len ∙ drop-replicate (length text) 8 0;
      name = rw (take_at kept (drop (length text) (replicate 8 0)) (length text) len, same) name;
    }
