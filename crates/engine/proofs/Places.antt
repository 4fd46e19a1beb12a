-- Lists of places.
use Rattle.std.proofs.Common.{◌≡◌, ◌≢◌, ℕ, zero, suc, ◌+◌, ◌<◌, ◌≤◌, List, [], ◌∷◌, map, Bool, true, Some, None, refl, ap, ap₂, ◌∙◌, inl, inr, arith}
use Rattle.std.specs.Prelude.{filter, slice_get}
use Rattle.std.specs.List.{range_with_len, AllByRecursion}
use Rattle.engine.proofs.Cases.{bool_cases}

-- all places pass
pub filter_all : (P : ℕ → Bool) (a n : ℕ) → ((k : ℕ) → P k ≡ true)
    → filter P (range_with_len a n) ≡ range_with_len a n
filter_all P a zero all = refl
filter_all P a (suc n) all = rw (all a) (ap (λ ks. a ∷ ks) (filter_all P (a + 1) n all))

-- what stands in a place of a range
pub mapped_at : {A : Type 0} (f : ℕ → A) (a n i : ℕ) → i < n
    → slice_get (map f (range_with_len a n)) i ≡ Some (f (a + i))
mapped_at f a zero i lt = absurd (omega (arith, lt))
mapped_at f a (suc n) zero lt = let z : a ≡ a + 0 = omega arith in ap (λ k. Some (f k)) z
mapped_at f a (suc n) (suc i) lt =
    let z : a + 1 + i ≡ a + suc i = omega arith in
    mapped_at f (a + 1) n i (omega (arith, lt)) ∙ ap (λ k. Some (f k)) z

pub past_mapped : {A : Type 0} (f : ℕ → A) (a n i : ℕ) → n ≤ i
    → slice_get (map f (range_with_len a n)) i ≡ None
past_mapped f a zero i le = refl
past_mapped f a (suc n) zero le = absurd (omega (arith, le))
past_mapped f a (suc n) (suc i) le = past_mapped f (a + 1) n i (omega (arith, le))

pub all_below : (a n most : ℕ) → a + n ≤ most → AllByRecursion (λ i. i < most) (range_with_len a n)
all_below a zero most le = tt
all_below a (suc n) most le = (omega (arith, le), all_below (a + 1) n most (omega (arith, le)))

past_below : (P : ℕ → Bool) (j a n : ℕ) → ((k : ℕ) → k < a + n → P k ≡ true → k ≡ j) → j < a
    → filter P (range_with_len a n) ≡ []
past_below P j a zero only lt = refl
past_below P j a (suc n) only lt = elim (bool_cases (P a)) [
  | inl on ↦ (let same = only a (omega arith) on in absurd (omega (arith, same, lt)))
  | inr off ↦ rw off (past_below P j (a + 1) n (λ k below h. only k (omega (arith, below)) h) (omega (arith, lt)))
]

-- one place alone of a range passes
pub filter_below : (P : ℕ → Bool) (j a n : ℕ) → P j ≡ true
    → ((k : ℕ) → k < a + n → P k ≡ true → k ≡ j) → a ≤ j → j < a + n
    → filter P (range_with_len a n) ≡ j ∷ []
filter_below P j a zero on only le lt = absurd (omega (arith, le, lt))
filter_below P j a (suc n) on only le lt = elim (bool_cases (P a)) [
  | inl here ↦
      (let same = only a (omega arith) here in
      rw here (ap₂ (λ (k : ℕ) (ks : List ℕ). k ∷ ks) same
      (past_below P j (a + 1) n (λ k below h. only k (omega (arith, below)) h) (omega (arith, same)))))
  | inr other ↦
      (let differ : a ≢ j = λ same. (let t : P a ≡ true = ap P same ∙ on in cc) in
      rw other (filter_below P j (a + 1) n on (λ k below h. only k (omega (arith, below)) h)
      (omega (arith, le, differ)) (omega (arith, lt))))
]

-- one place alone passes
pub filter_only : (P : ℕ → Bool) (j a n : ℕ) → P j ≡ true → ((k : ℕ) → P k ≡ true → k ≡ j) → a ≤ j
    → j < a + n → filter P (range_with_len a n) ≡ j ∷ []
filter_only P j a n on only le lt = filter_below P j a n on (λ k below h. only k h) le lt
