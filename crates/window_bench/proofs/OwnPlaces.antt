-- A list in which every number stands at its own place.
use Rattle.std.proofs.Common.{◌≡◌, ℕ, ◌<◌, true, List, length, sym, ◌∙◌, arith}
use Rattle.std.specs.Prelude.{slice_index, ◌==◌}
use Rattle.std.proofs.lemmas.Bool.Decides.{nat_tests}
use Rattle.std.proofs.lemmas.List.Folds.{list_any_at}
use Rattle.window.specs.Windows.{is_among, AreDifferent}

pub are_different : (xs : List ℕ) → ((i : ℕ) → i < length xs → slice_index xs i ≡ i) → AreDifferent xs
are_different xs own = λ i j below below' same. sym (own i below) ∙ same ∙ own j below'

pub each_among : (xs : List ℕ) (a : ℕ) → slice_index xs a ≡ a → a < length xs → is_among xs a ≡ true
each_among xs a own below = list_any_at (λ p. p == a) xs a 0 below (grind (arith, nat_tests, own))
