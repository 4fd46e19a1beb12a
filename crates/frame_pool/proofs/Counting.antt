-- How many places hold something.
use Rattle.std.proofs.Common.{◌≡◌, ℕ, zero, suc, ◌+◌, ◌<◌, ◌≤◌, List, [], ◌∷◌, length, map, get_or, set, replicate, Option, Some, None, refl, ap, arith}
use Rattle.std.specs.List.{sum, sum_by}
use Rattle.std.proofs.lemmas.List.Sums.{sum_by-cons}
use Rattle.frame_pool.specs.Pools.{block_in, held_count}

pub not_all : {A : Type 0} (places : List (Option A)) → held_count places ≤ length places
not_all [] = omega arith
not_all (None ∷ places) = let rest = not_all places in omega (arith, rest)
not_all (Some x ∷ places) = let rest = not_all places in omega (arith, rest)

pub one_empty : {A : Type 0} (places : List (Option A)) (i : ℕ) → i < length places
    → get_or places i None ≡ None → held_count places < length places
one_empty [] i lt is = absurd (omega (arith, lt))
one_empty (None ∷ places) zero lt is = let rest = not_all places in omega (arith, rest)
one_empty (Some x ∷ places) zero lt is = cc
one_empty (None ∷ places) (suc i) lt is =
    let rest = one_empty places i (omega (arith, lt)) is in omega (arith, rest)
one_empty (Some x ∷ places) (suc i) lt is =
    let rest = one_empty places i (omega (arith, lt)) is in omega (arith, rest)

pub count_put : {A : Type 0} (places : List (Option A)) (i : ℕ) (y : A) → i < length places
    → get_or places i None ≡ None → held_count (set places i (Some y)) ≡ held_count places + 1
count_put [] i y lt is = absurd (omega (arith, lt))
count_put (None ∷ places) zero y lt is = refl
count_put (Some x ∷ places) zero y lt is = cc
count_put (None ∷ places) (suc i) y lt is = count_put places i y (omega (arith, lt)) is
count_put (Some x ∷ places) (suc i) y lt is = ap (λ n. n + 1) (count_put places i y (omega (arith, lt)) is)

pub count_let_go : {A : Type 0} (places : List (Option A)) (i : ℕ) (x : A) → get_or places i None ≡ Some x
    → held_count (set places i None) + 1 ≡ held_count places
count_let_go [] i x is = cc
count_let_go (None ∷ places) zero x is = cc
count_let_go (Some y ∷ places) zero x is = refl
count_let_go (None ∷ places) (suc i) x is = count_let_go places i x is
count_let_go (Some y ∷ places) (suc i) x is = ap (λ n. n + 1) (count_let_go places i x is)

pub count_none : (A : Type 0) (n : ℕ) → held_count {A = A} (replicate n None) ≡ 0
count_none A zero = refl
count_none A (suc n) = count_none A n

pub count_denoted : (slots : List (List ℕ)) (chain : List (Option ℕ))
    → held_count (map (block_in slots) chain) ≡ held_count chain
count_denoted slots [] = refl
count_denoted slots (None ∷ chain) = count_denoted slots chain
count_denoted slots (Some slot ∷ chain) = ap (λ n. n + 1) (count_denoted slots chain)

-- ---- the counts of all owners

-- no owner holds more than its quota
abbrev pub AreWithin : List (List (Option ℕ)) → List ℕ → Type 0
AreWithin chains quotas = (i : ℕ) → held_count (get_or chains i []) ≤ get_or quotas i 0

pub sum_within : (chains : List (List (Option ℕ))) (quotas : List ℕ) → AreWithin chains quotas
    → length chains ≡ length quotas → sum_by held_count chains ≤ sum quotas
sum_within [] quotas within same = omega arith
sum_within (chain ∷ chains) [] within same = absurd (omega (arith, same))
sum_within (chain ∷ chains) (quota ∷ quotas) within same =
    let rest = sum_within chains quotas (λ i. within (suc i)) (omega (arith, same)) in
    let first : held_count chain ≤ quota = within 0 in
    omega (
      arith,
      sum_by-cons held_count chain chains,
      sum_by-cons (λ (x : ℕ). x) quota quotas,
      rest,
      first,
    )

-- one holds less than its quota, so all together hold less than theirs
pub sum_below : (chains : List (List (Option ℕ))) (quotas : List ℕ) (owner : ℕ) → AreWithin chains quotas
    → length chains ≡ length quotas → held_count (get_or chains owner []) < get_or quotas owner 0
    → sum_by held_count chains < sum quotas
sum_below chains [] owner within same less = absurd (omega (arith, less))
sum_below [] (quota ∷ quotas) owner within same less = absurd (omega (arith, same))
sum_below (chain ∷ chains) (quota ∷ quotas) zero within same less =
    let rest = sum_within chains quotas (λ i. within (suc i)) (omega (arith, same)) in
    let first : held_count chain < quota = less in
    omega (
      arith,
      sum_by-cons held_count chain chains,
      sum_by-cons (λ (x : ℕ). x) quota quotas,
      rest,
      first,
    )
sum_below (chain ∷ chains) (quota ∷ quotas) (suc owner) within same less =
    let rest = sum_below chains quotas owner (λ i. within (suc i)) (omega (arith, same)) less in
    let first : held_count chain ≤ quota = within 0 in
    omega (
      arith,
      sum_by-cons held_count chain chains,
      sum_by-cons (λ (x : ℕ). x) quota quotas,
      rest,
      first,
    )
