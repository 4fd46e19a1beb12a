-- Places that are filled one after another, and how many are empty.
use Rattle.std.proofs.Common.{◌≡◌, ◌≢◌, ℕ, zero, suc, ◌+◌, ◌<◌, ◌≤◌, List, [], ◌∷◌, ◌++◌, length, map, get_or, set, replicate, Bool, true, false, Option, Some, None, is_some, refl, sym, ◌∙◌, ap, arith, append-nil, append_assoc, ◌&&◌, ◌⊎◌, inl, inr}
use Rattle.std.specs.Prelude.{◌==◌}
use Rattle.std.specs.List.{range_with_len, list_all, flat_map}
use Rattle.std.proofs.lemmas.Bool.Decides.{nat_tests}
use Rattle.window.specs.inside.Places.{empty_count}

pub same_map : {X : Type 0} (f g : ℕ → X) (a n : ℕ) → ((k : ℕ) → a ≤ k → k < a + n → f k ≡ g k)
    → map f (range_with_len a n) ≡ map g (range_with_len a n)
same_map f g a zero same = refl
same_map f g a (suc n) same =
    let rest = same_map f g (a + 1) n (λ k le lt. same k (omega arith) (omega arith)) in
    let first : f a ≡ g a = same a (omega arith) (omega arith) in
    rw (first, rest)

-- one place of a mapped range is replaced
pub map_set : {X : Type 0} (f g : ℕ → X) (a n i : ℕ) (v : X) → i < n → f (a + i) ≡ v
    → ((k : ℕ) → a ≤ k → k < a + n → k ≢ a + i → g k ≡ f k)
    → set (map g (range_with_len a n)) i v ≡ map f (range_with_len a n)
map_set f g a zero i v lt here other = absurd (omega arith)
map_set f g a (suc n) zero v lt here other =
    let e : a + 0 ≡ a = omega arith in
    let first : v ≡ f a = sym here ∙ ap f e in
    let rest = same_map g f (a + 1) n (λ k le lt. other k (omega arith) (omega arith) (λ is. omega arith)) in
    rw (first, rest)
map_set f g a (suc n) (suc i) v lt here other =
    let first : g a ≡ f a = other a (omega arith) (omega arith) (λ is. omega arith) in
    let e : a + 1 + i ≡ a + suc i = omega arith in
    let rest = map_set f g (a + 1) n i v (omega arith) (ap f e ∙ here)
    (λ k le lt ne. other k (omega arith) (omega arith) (λ is. ne (omega arith))) in
    rw (first, rest)

pub all_none : {X : Type 0} (f : ℕ → Option X) (a n : ℕ) → ((k : ℕ) → a ≤ k → k < a + n → f k ≡ None)
    → map f (range_with_len a n) ≡ replicate n None
all_none f a zero none = refl
all_none f a (suc n) none =
    let rest = all_none f (a + 1) n (λ k le lt. none k (omega arith) (omega arith)) in
    let first : f a ≡ None = none a (omega arith) (omega arith) in
    rw (first, rest)

pub empty_none : (n : ℕ) → empty_count (replicate n None) ≡ n
empty_none zero = refl
empty_none (suc n) = let rest = empty_none n in omega arith

pub empty_set : (ps : List (Option (List ℕ))) (i : ℕ) (b : List ℕ) → i < length ps → get_or ps i None ≡ None
    → empty_count (set ps i (Some b)) + 1 ≡ empty_count ps
empty_set [] i b lt is = absurd (omega (arith, lt))
empty_set (None ∷ ps) zero b lt is = refl
empty_set (Some c ∷ ps) zero b lt is = cc
empty_set (None ∷ ps) (suc i) b lt is = let rest = empty_set ps i b (omega (arith, lt)) is in omega (arith, rest)
empty_set (Some c ∷ ps) (suc i) b lt is = empty_set ps i b (omega (arith, lt)) is

pub none_empty : (ps : List (Option (List ℕ))) → (empty_count ps == 0) ≡ list_all is_some ps
none_empty [] = refl
none_empty (None ∷ ps) = grind (arith, nat_tests)
none_empty (Some b ∷ ps) = none_empty ps

pub flat_more : (f : ℕ → List ℕ) (a n j : ℕ) → a + n ≡ j
    → flat_map f (range_with_len a (n + 1)) ≡ flat_map f (range_with_len a n) ++ f j
flat_more f a zero j is = let e : a ≡ j = omega (arith, is) in append-nil (f a) ∙ ap f e
flat_more f a (suc n) j is =
    let rest = flat_more f (a + 1) n j (omega (arith, is)) in
    let e : suc n + 1 ≡ suc (n + 1) = omega arith in
    ap (λ k. flat_map f (range_with_len a k)) e ∙ ap (λ xs. f a ++ xs) rest
    ∙ sym (append_assoc (f a) (flat_map f (range_with_len (a + 1) n)) (f j))

pub all_range_more : (p : ℕ → Bool) (a n j : ℕ) → a + n ≡ j
    → list_all p (range_with_len a (n + 1)) ≡ (list_all p (range_with_len a n) && p j)
all_range_more p a zero j is = let e : a ≡ j = omega (arith, is) in ap (λ k. p k && true) e ∙ and_true (p j) where
  and_true : (b : Bool) → (b && true) ≡ b
  and_true true = refl
  and_true false = refl
all_range_more p a (suc n) j is =
    let rest = all_range_more p (a + 1) n j (omega (arith, is)) in
    let e : suc n + 1 ≡ suc (n + 1) = omega arith in
    ap (λ k. list_all p (range_with_len a k)) e ∙ ap (λ b. p a && b) rest
    ∙ regroup (p a) (list_all p (range_with_len (a + 1) n)) (p j) where
      regroup : (x y z : Bool) → (x && (y && z)) ≡ ((x && y) && z)
      regroup true y z = refl
      regroup false y z = refl

-- one that fails is enough
pub all_fails : (p : ℕ → Bool) (a n j : ℕ) → a ≤ j → j < a + n → p j ≡ false → list_all p (range_with_len a n) ≡ false
all_fails p a zero j le lt fails = absurd (omega (arith, le, lt))
all_fails p a (suc n) j le lt fails =
    elim (here a j le) [
      | inl same ↦ (let first : p a ≡ false = ap p same ∙ fails in rw first)
      | inr later ↦
          (let rest = all_fails p (a + 1) n j (omega (arith, later)) (omega (arith, lt)) fails in and_false (p a)
          (list_all p (range_with_len (a + 1) n)) rest)
    ]
  where
    here : (a j : ℕ) → a ≤ j → (a ≡ j) ⊎ (a < j)
    here a j le = grind arith

    and_false : (x y : Bool) → y ≡ false → (x && y) ≡ false
    and_false true y h = h
    and_false false y h = refl
