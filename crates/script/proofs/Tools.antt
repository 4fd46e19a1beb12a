-- Small facts on options, tests and lists of marks.
use Rattle.std.proofs.Common.{◌≡◌, ℕ, ◌≤◌, Bool, true, false, cond, eqb, ltb, ◌&&◌, List, [], ◌∷◌, ◌++◌, Option, Some, None, refl, arith}
use Rattle.std.specs.List.{All, AllByRecursion, list_all}
use Rattle.std.proofs.lemmas.Bool.Decides.{nat_tests}
use Rattle.std.proofs.lemmas.List.Elements.{All-from_recursion}
use Rattle.script.specs.Naming.{◌>>=◌}

pub bind_some : {A B : Type 0} (o : Option A) (f : A → Option B) (y : B) → (o >>= f) ≡ Some y
    → (x : A) × (o ≡ Some x) × (f x ≡ Some y)
bind_some (Some x) f y e = (x, refl, e)
bind_some None f y e = absurd cc

pub guard_some : {A : Type 0} (b : Bool) (x y : A) → cond b (Some x) None ≡ Some y → (b ≡ true)
    × (x ≡ y)
guard_some true x y e = (refl, cc)
guard_some false x y e = absurd cc

pub guard_other : {A : Type 0} (b : Bool) (o : Option A) (y : A) → cond b o None ≡ Some y
    → (b ≡ true) × (o ≡ Some y)
guard_other true o y e = (refl, e)
guard_other false o y e = absurd cc

pub both : (a b : Bool) → (a && b) ≡ true → (a ≡ true) × (b ≡ true)
both true b h = (refl, h)
both false b h = absurd cc

pub some_same : {A : Type 0} (x y : A) → Some x ≡ Some y → x ≡ y
some_same x y e = cc

pub weaker : (p q : ℕ → Bool) → ((c : ℕ) → p c ≡ true → q c ≡ true) → (word : List ℕ)
    → list_all p word ≡ true → list_all q word ≡ true
weaker p q h [] e = refl
weaker p q h (c ∷ word) e =
    let b = both (p c) (list_all p word) e in
    rw (h c b.0) (weaker p q h word b.1)

-- ---- marks that a word doesn't have

-- a character is no space and no newline
abbrev pub is_ink : ℕ → Bool
is_ink c = ltb 32 c

abbrev pub IsInk : List ℕ → Type 0
IsInk word = list_all is_ink word ≡ true

abbrev pub Lacks : ℕ → List ℕ → Type 0
Lacks mark word = All (λ c. eqb c mark ≡ false) word

lacking : (p : ℕ → Bool) (mark : ℕ) → ((c : ℕ) → p c ≡ true → eqb c mark ≡ false) → (word : List ℕ)
    → list_all p word ≡ true → AllByRecursion (λ c. eqb c mark ≡ false) word
lacking p mark h [] e = tt
lacking p mark h (c ∷ word) e =
    let b = both (p c) (list_all p word) e in
    (h c b.0, lacking p mark h word b.1)

-- a word whose characters pass a test that the mark fails
pub lacks : (p : ℕ → Bool) (mark : ℕ) → ((c : ℕ) → p c ≡ true → eqb c mark ≡ false)
    → (word : List ℕ) → list_all p word ≡ true → Lacks mark word
lacks p mark h word e = All-from_recursion (λ c. eqb c mark ≡ false) word (lacking p mark h word e)

pub ink_lacks : (mark : ℕ) → mark ≤ 32 → (word : List ℕ) → IsInk word → Lacks mark word
ink_lacks mark le word ink = lacks is_ink mark (λ c h. grind (arith, nat_tests)) word ink

-- ---- facts of all elements

pub all_left : {X : Type 0} (P : X → Type 0) (xs ys : List X) → AllByRecursion P (xs ++ ys)
    → AllByRecursion P xs
all_left P [] ys all = tt
all_left P (x ∷ xs) ys all = (all.0, all_left P xs ys all.1)

pub all_right : {X : Type 0} (P : X → Type 0) (xs ys : List X) → AllByRecursion P (xs ++ ys)
    → AllByRecursion P ys
all_right P [] ys all = all
all_right P (x ∷ xs) ys all = all_right P xs ys all.1

pub all_append : {X : Type 0} (P : X → Type 0) (xs ys : List X) → AllByRecursion P xs
    → AllByRecursion P ys → AllByRecursion P (xs ++ ys)
all_append P [] ys a b = b
all_append P (x ∷ xs) ys a b = (a.0, all_append P xs ys a.1 b)
