-- What an event gives, it hands over a piece of.
use Rattle.std.proofs.Common.{◌≡◌, ℕ, ◌+◌, List, [], ◌∷◌, ◌++◌, ◌&&◌, Bool, true, false, Option, Some, None, refl, ◌∙◌, inl, inr, arith}
use Rattle.std.specs.Prelude.{slice_get, not, ◌==◌, nat_lt}
use Rattle.std.specs.List.{list_any, range_with_len}
use Rattle.std.proofs.lemmas.Bool.Decides.{nat_tests}
use Rattle.levels.specs.declared.level.Party.{Party}
use Rattle.frame.specs.Pieces.{pieces}
use Rattle.events.specs.declared.event.Event.{Event}
use Rattle.machine.specs.Setup.{Setup}
use Rattle.machine.specs.Given.{has_piece, has_all, has_later, is_given}
use Rattle.machine.specs.Machine.{State, handed, gives}
use Rattle.machine.specs.Laws.{HandsOver}
use Rattle.machine.proofs.Basics.{bool_cases, in_both, all_alike}
use Rattle.machine.proofs.Handing.{hands_over}

-- whether a set has a piece of message j
abbrev has_some : List (ℕ × ℕ) → ℕ → Bool
has_some arrived j = list_any (λ p. p.0 == j) arrived

some_piece : (arrived : List (ℕ × ℕ)) (j : ℕ) → has_some arrived j ≡ true
    → (i : ℕ) × (has_piece arrived j i ≡ true)
some_piece [] j h = cc
some_piece (p ∷ arrived) j h =
    elim (bool_cases (p.0 == j)) [
      | inl here ↦ (p.1, grind (arith, nat_tests))
      | inr there ↦ (let t = some_piece arrived j (rw there at h) in (t.0, grind (arith, nat_tests, t.1)))
    ]

no_piece : (arrived : List (ℕ × ℕ)) (j i : ℕ) → has_some arrived j ≡ false → has_piece arrived j i ≡ false
no_piece [] j i h = refl
no_piece (p ∷ arrived) j i h = grind (arith, nat_tests, no_piece arrived j i)

pub has_all_alike : (o : Option (List ℕ)) (xs ys : List (ℕ × ℕ)) (j : ℕ)
    → ((i : ℕ) → has_piece xs j i ≡ has_piece ys j i) → has_all o xs j ≡ has_all o ys j
has_all_alike None xs ys j same = refl
has_all_alike (Some m) xs ys j same =
    all_alike (has_piece xs j) (has_piece ys j) (range_with_len 0 (pieces m)) same

not_twice : (a b c : Bool) → (a && not a && b && c) ≡ false
not_twice true b c = refl
not_twice false b c = refl

-- with no piece of message j more, it isn't given
none_given : (ahead : ℕ) (o : Option (List ℕ)) (new before : List (ℕ × ℕ)) (given : List ℕ) (j : ℕ)
    → has_some new j ≡ false → is_given ahead o before (new ++ before) given j ≡ false
none_given ahead o new before given j none =
    let same =
    has_all_alike o (new ++ before) before j (λ i. in_both new before j i ∙ rw (no_piece new j i none)) in
    rw same
    (not_twice (has_all o before j) (not (has_later before (j + ahead))) (not (list_any (nat_lt j) given)))

pub gives_what_it_hands : (m : Setup) (x : State) (e : Event) (s u : Party) (j : ℕ) → gives m x e s u j ≡ true
    → (i : ℕ) × HandsOver m x e s u j i
unfolding gives
gives_what_it_hands m x e s u j given =
    elim (bool_cases (has_some (handed m x e s u) j)) [
      | inl some ↦ (let t = some_piece (handed m x e s u) j some in (t.0, hands_over m x e s u j t.0 t.1))
      | inr none ↦
          (let never =
          none_given m.ahead (slice_get (x.sent s u) j) (handed m x e s u) (x.arrived s u) (x.given s u) j
          none in absurd (cc))
    ]
