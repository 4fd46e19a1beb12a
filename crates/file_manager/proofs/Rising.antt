-- A first part of names in order rises.
use Rattle.std.proofs.Common.{◌≡◌, ℕ, List, [], ◌∷◌, ◌++◌, true, refl, ap}
use Rattle.std.specs.List.Sorted.{IsStrictlySortedBy}
use Rattle.std.specs.Ordering.{is_lt}
use Rattle.file_calls.specs.Names.{name_cmp, are_rising}

pub rising_front : (xs ys : List (List ℕ)) → IsStrictlySortedBy name_cmp (xs ++ ys) → are_rising xs ≡ true
unfolding IsStrictlySortedBy
rising_front [] ys h = refl
rising_front (x ∷ []) ys h = refl
rising_front (x ∷ x' ∷ xs) ys h = rw (ap is_lt h.0.0, rising_front (x' ∷ xs) ys h.1) refl
