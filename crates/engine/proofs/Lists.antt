-- Lists that get one more element at their end, and what holds of each element.
use Rattle.std.proofs.Common.{◌≡◌, ◌≢◌, ℕ, zero, suc, List, [], ◌∷◌, ◌++◌, length, Some, refl, ap, ap₂}
use Rattle.std.specs.Prelude.{slice_get}
use Rattle.std.specs.List.{flat_map, AllByRecursion}

-- the new element is the last
pub get_last : {A : Type 0} (xs : List A) (y : A) → slice_get (xs ++ y ∷ []) (length xs) ≡ Some y
get_last [] y = refl
get_last (x ∷ xs) y = get_last xs y

-- the others stay where they are
pub get_other : {A : Type 0} (xs : List A) (y : A) (j : ℕ) → j ≢ length xs
    → slice_get (xs ++ y ∷ []) j ≡ slice_get xs j
get_other [] y zero differ = absurd (differ refl)
get_other [] y (suc j) differ = refl
get_other (x ∷ xs) y zero differ = refl
get_other (x ∷ xs) y (suc j) differ = get_other xs y j (λ e. differ (ap suc e))

-- what follows for each element
pub all_more : {A : Type 0} (P Q : A → Type 0) (xs : List A) → ((x : A) → P x → Q x)
    → AllByRecursion P xs → AllByRecursion Q xs
all_more P Q [] more all = tt
all_more P Q (x ∷ xs) more all = (more x all.0, all_more P Q xs more all.1)

pub all_and_last : {A : Type 0} (P : A → Type 0) (xs : List A) (y : A) → AllByRecursion P xs → P y
    → AllByRecursion P (xs ++ y ∷ [])
all_and_last P [] y all last = (last, tt)
all_and_last P (x ∷ xs) y all last = (all.0, all_and_last P xs y all.1 last)

-- joined lists that are the same for each element
pub joined_same : {A B : Type 0} (f g : A → List B) (xs : List A) → ((x : A) → f x ≡ g x)
    → flat_map f xs ≡ flat_map g xs
joined_same f g [] same = refl
joined_same f g (x ∷ xs) same = ap₂ (λ y z. y ++ z) (same x) (joined_same f g xs same)
