-- Names that rise.
use Rattle.std.proofs.Common.{◌≡◌, ℕ, suc, ◌-◌, List, [], ◌∷◌, ◌++◌, length, true, Some, refl, sym, arith}
use Rattle.std.specs.Prelude.{slice_get}
use Rattle.std.specs.Ordering.{is_lt}
use Rattle.std.proofs.lemmas.Bool.{and_parts}
use Rattle.std.proofs.Math.Bool.{and-true}
use Rattle.file_calls.specs.Names.{name_cmp, name_of, are_rising}
use Rattle.file_calls.specs.inside.Reading.{name_parts, names_behind}

-- one name more rises where it is greater than the last one
pub are_rising-push : (names : List (List ℕ)) (last name : List ℕ) → are_rising names ≡ true
    → slice_get names (length names - 1) ≡ Some last
    → is_lt (name_cmp last name) ≡ are_rising (names ++ name ∷ [])
are_rising-push [] last name rising is = absurd cc
are_rising-push (first ∷ []) last name rising is =
    let same : first ≡ last = cc in
    rw (← same) (sym (and-true (is_lt (name_cmp first name))))
are_rising-push (first ∷ next ∷ names) last name rising is =
    let both = and_parts (is_lt (name_cmp first next)) (are_rising (next ∷ names)) rising in
    let place : length (first ∷ next ∷ names) - 1 ≡ suc (length (next ∷ names) - 1) = omega arith in
    let there : slice_get (first ∷ next ∷ names) (suc (length (next ∷ names) - 1)) ≡ Some last = rw (← place) is in
    rw both.0 (are_rising-push (next ∷ names) last name both.1 there)

-- one of the names that are left
pub names_behind-more : (left after : ℕ) (names : List (List ℕ)) (rest name : List ℕ) (parts : List ℕ × List ℕ)
    → left ≡ suc after
    → name_parts rest ≡ Some parts → name_of parts.0 ≡ Some name → are_rising (names ++ name ∷ []) ≡ true
    → names_behind left names rest ≡ names_behind after (names ++ name ∷ []) parts.1
names_behind-more left after names rest name parts more parted named rising = rw (more, parted, named, rising) refl

-- the first of names that rise
pub are_rising-front : (names more : List (List ℕ)) → are_rising (names ++ more) ≡ true → are_rising names ≡ true
are_rising-front [] more rising = refl
are_rising-front (first ∷ []) more rising = refl
are_rising-front (first ∷ next ∷ names) more rising =
    let both = and_parts (is_lt (name_cmp first next)) (are_rising (next ∷ (names ++ more))) rising in
    rw both.0 (are_rising-front (next ∷ names) more both.1)
