-- Lists without two elements of one key.
use Rattle.std.proofs.Common.{◌≡◌, ◌≢◌, ℕ, zero, suc, List, [], ◌∷◌, ◌++◌, length, Bool, true, false, Option, Some, None, cond, refl, sym, ap, ◌∙◌, arith, subst}
use Rattle.std.specs.Prelude.{if◌then◌else◌, slice_get, ◌==◌, find}
use Rattle.std.specs.List.{list_any, AllByRecursion}
use Rattle.std.proofs.lemmas.Bool.Decides.{nat_tests}
use Rattle.std.proofs.lemmas.Grind.{common_steps}
use Rattle.std.proofs.lemmas.Option.{none-some, same_Some}
use Rattle.levels.specs.Kept.{AreApart}

-- the element at a place, with one more at the end
pub get_push : {X : Type 0} (xs : List X) (y : X) (j : ℕ)
    → slice_get (xs ++ y ∷ []) j ≡ (if j == length xs then Some y else slice_get xs j)
get_push [] y zero = refl
get_push [] y (suc j) = grind (arith, nat_tests)
get_push (x ∷ xs) y zero = grind (arith, nat_tests)
get_push (x ∷ xs) y (suc j) = grind (arith, nat_tests, get_push xs y j)

-- a new key keeps them apart
pub apart_push : {X K : Type 0} (key : X → K) (xs : List X) (new : X) → AreApart key xs
    → ((i : ℕ) (a : X) → slice_get xs i ≡ Some a → key a ≢ key new) → AreApart key (xs ++ new ∷ [])
apart_push key xs new apart fresh i j a b ia jb same =
    let ga = sym (get_push xs new i) ∙ ia in
    let gb = sym (get_push xs new j) ∙ jb in
    grind (arith, nat_tests, ga, gb, apart i j a b, fresh i a, fresh j b)

pub apart_cons : {X K : Type 0} (key : X → K) (xs : List X) (new : X) → AreApart key xs
    → ((i : ℕ) (a : X) → slice_get xs i ≡ Some a → key a ≢ key new) → AreApart key (new ∷ xs)
apart_cons key xs new apart fresh zero zero a b ia jb same = refl
apart_cons key xs new apart fresh zero (suc j) a b ia jb same =
    absurd (fresh j b jb (sym same ∙ ap key (sym (same_Some new a ia))))
apart_cons key xs new apart fresh (suc i) zero a b ia jb same =
    absurd (fresh i a ia (same ∙ ap key (sym (same_Some new b jb))))
apart_cons key xs new apart fresh (suc i) (suc j) a b ia jb same = ap suc (apart i j a b ia jb same)

-- no element passes a test that none passes
pub none_at : {X : Type 0} (p : X → Bool) (xs : List X) (i : ℕ) (a : X) → list_any p xs ≡ false
    → slice_get xs i ≡ Some a → p a ≡ false
none_at p [] i a none here = cc
none_at p (x ∷ xs) zero a none here = grind (arith, nat_tests, common_steps)
none_at p (x ∷ xs) (suc i) a none here = grind (arith, nat_tests, common_steps, none_at p xs i a)

pub find_none_at : {X : Type 0} (p : X → Bool) (xs : List X) (i : ℕ) (a : X) → find p xs ≡ None
    → slice_get xs i ≡ Some a → p a ≡ false
find_none_at p [] i a none here = cc
find_none_at p (x ∷ xs) zero a none here = grind (arith, nat_tests, common_steps)
find_none_at p (x ∷ xs) (suc i) a none here = grind (arith, nat_tests, common_steps, find_none_at p xs i a)

-- one more element of which a fact holds
pub all_push : {X : Type 0} (P : X → Type 0) (xs : List X) (x : X) → AllByRecursion P xs → P x
    → AllByRecursion P (xs ++ x ∷ [])
all_push P [] x all here = (here, tt)
all_push P (y ∷ ys) x all here = (all.0, all_push P ys x all.1 here)

pub all_kept : {X : Type 0} (P Q : X → Type 0) → ((x : X) → P x → Q x) → (xs : List X) → AllByRecursion P xs
    → AllByRecursion Q xs
all_kept P Q keeps [] all = tt
all_kept P Q keeps (x ∷ xs) all = (keeps x all.0, all_kept P Q keeps xs all.1)

first_or : {X : Type 0} (P : X → Type 0) (b : Bool) (x a : X) (rest : Option X) → P x → (rest ≡ Some a → P a)
    → cond b (Some x) rest ≡ Some a → P a
first_or P true x a rest here other found = subst P (same_Some x a found) here
first_or P false x a rest here other found = other found

-- what is found has a fact that all have
pub find_all : {X : Type 0} (P : X → Type 0) (p : X → Bool) (xs : List X) (a : X) → AllByRecursion P xs
    → find p xs ≡ Some a → P a
find_all P p [] a all here = absurd (none-some a here)
find_all P p (x ∷ xs) a all here = first_or P (p x) x a (find p xs) all.0 (find_all P p xs a all.1) here
