-- Tests, parties and lists.
use Rattle.std.proofs.Common.{◌≡◌, ℕ, zero, suc, List, [], ◌∷◌, ◌++◌, ◌&&◌, ◌||◌, Bool, true, false, Some, refl, ap, ◌⊎◌, inl, inr, arith, ◌<◌, length}
use Rattle.std.specs.Prelude.{slice_get, filter, ◌==◌}
use Rattle.std.specs.List.{list_all, AllByRecursion}
use Rattle.std.proofs.lemmas.Bool.Decides.{nat_tests}
use Rattle.std.proofs.lemmas.List.Folds.{list_any-append}
use Rattle.levels.specs.declared.level.Party.{Party}
use Rattle.levels.specs.declared.level.Party.TheVariants.{Host, Manager}
use Rattle.levels.specs.Rosters.{is_same_party}
use Rattle.machine.specs.Given.{has_piece}

pub bool_cases : (b : Bool) → (b ≡ true) ⊎ (b ≡ false)
bool_cases true = inl refl
bool_cases false = inr refl

pub both : (a b : Bool) → (a && b) ≡ true → (a ≡ true) × (b ≡ true)
both true true h = (refl, refl)
both true false h = cc
both false b h = cc

pub same_number : (a b : ℕ) → (a == b) ≡ true → a ≡ b
same_number a b h = grind (arith, nat_tests)

pub same_party : (a b : Party) → is_same_party a b ≡ true → a ≡ b
same_party (Host a) (Host b) h = ap Host (same_number a b h)
same_party (Manager p) (Manager q) h = ap (λ n. Manager (record { 0 = n })) (same_number p.0 q.0 h)
same_party (Host a) (Manager q) h = cc
same_party (Manager p) (Host b) h = cc

pub own_party : (a : Party) → is_same_party a a ≡ true
own_party (Host a) = grind (arith, nat_tests)
own_party (Manager p) = grind (arith, nat_tests)

pub in_both : (xs ys : List (ℕ × ℕ)) (j i : ℕ)
    → has_piece (xs ++ ys) j i ≡ (has_piece xs j i || has_piece ys j i)
in_both xs ys j i = list_any-append (λ (p : ℕ × ℕ). p.0 == j && p.1 == i) xs ys

-- a message keeps its number
pub found_still : {A : Type 0} (before added : List A) (j : ℕ) (m : A) → slice_get before j ≡ Some m
    → slice_get (before ++ added) j ≡ Some m
found_still [] added j m is = cc
found_still (x ∷ before) added zero m is = is
found_still (x ∷ before) added (suc j) m is = found_still before added j m is

pub all_alike : {A : Type 0} (P Q : A → Bool) (xs : List A) → ((x : A) → P x ≡ Q x)
    → list_all P xs ≡ list_all Q xs
all_alike P Q [] same = refl
all_alike P Q (x ∷ xs) same = grind (arith, same x, all_alike P Q xs same)

pub all_still : {A : Type 0} (P Q : A → Bool) (xs : List A) → ((x : A) → P x ≡ true → Q x ≡ true)
    → list_all P xs ≡ true → list_all Q xs ≡ true
all_still P Q [] more h = refl
all_still P Q (x ∷ xs) more h = grind (arith, nat_tests, more x, all_still P Q xs more)

pub all_joined : {A : Type 0} (Q : A → Type 0) (xs ys : List A) → AllByRecursion Q xs → AllByRecursion Q ys
    → AllByRecursion Q (xs ++ ys)
all_joined Q [] ys left right = right
all_joined Q (x ∷ xs) ys left right = (left.0, all_joined Q xs ys left.1 right)

pub none_passes : (P : ℕ → Bool) (xs : List ℕ) → ((k : ℕ) → P k ≡ false) → filter P xs ≡ []
none_passes P [] none = refl
none_passes P (x ∷ xs) none = rw (none x) (none_passes P xs none)

-- what stands at a place below the length
pub there_at : {A : Type 0} (xs : List A) (n : ℕ) → n < length xs → (x : A) × (slice_get xs n ≡ Some x)
there_at [] n lt = absurd (omega (arith, lt))
there_at (x ∷ xs) zero lt = (x, refl)
there_at (x ∷ xs) (suc n) lt = there_at xs n (omega (arith, lt))
