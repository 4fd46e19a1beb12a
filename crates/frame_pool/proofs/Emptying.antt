-- Places that are emptied one after another.
use Rattle.std.proofs.Common.{◌≡◌, ℕ, zero, suc, ◌+◌, ◌<◌, ◌≤◌, List, [], ◌∷◌, ◌++◌, length, map, get_or, set, take, drop, replicate, Option, Some, None, refl, sym, ◌∙◌, ap, arith}
use Rattle.std.proofs.lemmas.List.{append-nil, length-map}
use Rattle.frame_pool.specs.Pools.{block_in, held_count, without}
use Rattle.frame_pool.specs.inside.Kept.{emptied}

-- n places are emptied, from the first on
abbrev pub cut : {A : Type 0} → ℕ → ℕ → List (Option A) → List (Option A)
cut zero zero places = places
cut zero (suc n) [] = []
cut zero (suc n) (x ∷ places) = None ∷ cut zero n places
cut (suc first) n [] = []
cut (suc first) n (x ∷ places) = x ∷ cut first n places

pub cut_is : {A : Type 0} (first n : ℕ) (places : List (Option A)) → first + n ≤ length places
    → take first places ++ (replicate n None ++ drop (first + n) places) ≡ cut first n places
cut_is zero zero places le = refl
cut_is zero (suc n) [] le = absurd (omega (arith, le))
cut_is zero (suc n) (x ∷ places) le =
    let rest = cut_is zero n places (omega (arith, le)) in
    let e : zero + suc n ≡ suc (zero + n) = omega arith in
    rw e (ap (λ ps. None ∷ ps) rest)
cut_is (suc first) n [] le = absurd (omega (arith, le))
cut_is (suc first) n (x ∷ places) le =
    let rest = cut_is first n places (omega (arith, le)) in
    let e : suc first + n ≡ suc (first + n) = omega arith in
    rw e (ap (λ ps. x ∷ ps) rest)

cut_more : {A : Type 0} (first n : ℕ) (places : List (Option A))
    → set (cut first n places) (first + n) None ≡ cut first (suc n) places
cut_more zero zero [] = refl
cut_more zero zero (x ∷ places) = refl
cut_more zero (suc n) [] = refl
cut_more zero (suc n) (x ∷ places) =
    let rest = cut_more zero n places in
    let e : zero + suc n ≡ suc (zero + n) = omega arith in
    rw e (ap (λ ps. None ∷ ps) rest)
cut_more (suc first) n [] = refl
cut_more (suc first) n (x ∷ places) =
    let rest = cut_more first n places in
    let e : suc first + n ≡ suc (first + n) = omega arith in
    rw e (ap (λ ps. x ∷ ps) rest)

cut_nothing : {A : Type 0} (first n : ℕ) (places : List (Option A)) → held_count places ≡ 0
    → cut first n places ≡ places
cut_nothing zero zero places none = refl
cut_nothing zero (suc n) [] none = refl
cut_nothing zero (suc n) (None ∷ places) none = ap (λ ps. None ∷ ps) (cut_nothing zero n places none)
cut_nothing zero (suc n) (Some x ∷ places) none = absurd (omega (arith, none))
cut_nothing (suc first) n [] none = refl
cut_nothing (suc first) n (None ∷ places) none = ap (λ ps. None ∷ ps) (cut_nothing first n places none)
cut_nothing (suc first) n (Some x ∷ places) none = absurd (omega (arith, none))

cut_rest : {A : Type 0} (first i n : ℕ) (places : List (Option A)) → i ≤ n → held_count (cut first i places) ≡ 0
    → cut first i places ≡ cut first n places
cut_rest zero zero n places le none = sym (cut_nothing zero n places none)
cut_rest zero (suc i) zero places le none = absurd (omega (arith, le))
cut_rest zero (suc i) (suc n) [] le none = refl
cut_rest zero (suc i) (suc n) (x ∷ places) le none =
    ap (λ ps. None ∷ ps) (cut_rest zero i n places (omega (arith, le)) none)
cut_rest (suc first) i n [] le none = refl
cut_rest (suc first) i n (None ∷ places) le none = ap (λ ps. None ∷ ps) (cut_rest first i n places le none)
cut_rest (suc first) i n (Some x ∷ places) le none = absurd (omega (arith, none))

length-cut : {A : Type 0} (first n : ℕ) (places : List (Option A)) → length (cut first n places) ≡ length places
length-cut zero zero places = refl
length-cut zero (suc n) [] = refl
length-cut zero (suc n) (x ∷ places) = ap suc (length-cut zero n places)
length-cut (suc first) n [] = refl
length-cut (suc first) n (x ∷ places) = ap suc (length-cut first n places)

cut_held : {A : Type 0} (first n : ℕ) (places : List (Option A)) (i : ℕ) (x : A)
    → get_or (cut first n places) i None ≡ Some x → get_or places i None ≡ Some x
cut_held zero zero places i x is = is
cut_held zero (suc n) [] i x is = is
cut_held zero (suc n) (y ∷ places) zero x is = cc
cut_held zero (suc n) (y ∷ places) (suc i) x is = cut_held zero n places i x is
cut_held (suc first) n [] i x is = is
cut_held (suc first) n (y ∷ places) zero x is = is
cut_held (suc first) n (y ∷ places) (suc i) x is = cut_held first n places i x is

cut_fewer : {A : Type 0} (first n : ℕ) (places : List (Option A))
    → held_count (cut first n places) ≤ held_count places
cut_fewer zero zero places = omega arith
cut_fewer zero (suc n) [] = omega arith
cut_fewer zero (suc n) (None ∷ places) = cut_fewer zero n places
cut_fewer zero (suc n) (Some y ∷ places) = let rest = cut_fewer zero n places in omega (arith, rest)
cut_fewer (suc first) n [] = omega arith
cut_fewer (suc first) n (None ∷ places) = cut_fewer first n places
cut_fewer (suc first) n (Some y ∷ places) = let rest = cut_fewer first n places in omega (arith, rest)

cut_blocks : (slots : List (List ℕ)) (first n : ℕ) (places : List (Option ℕ))
    → map (block_in slots) (cut first n places) ≡ cut first n (map (block_in slots) places)
cut_blocks slots zero zero places = refl
cut_blocks slots zero (suc n) [] = refl
cut_blocks slots zero (suc n) (x ∷ places) = ap (λ ps. None ∷ ps) (cut_blocks slots zero n places)
cut_blocks slots (suc first) n [] = refl
cut_blocks slots (suc first) n (x ∷ places) = ap (λ ps. block_in slots x ∷ ps) (cut_blocks slots first n places)

-- ---- the same of a chain

pub emptied_none : (chain : List (Option ℕ)) (first : ℕ) → first ≤ length chain → emptied chain first 0 ≡ chain
emptied_none chain first le = cut_is first 0 chain (omega (arith, le)) ∙ nothing first chain where
  nothing : (first : ℕ) (chain : List (Option ℕ)) → cut first 0 chain ≡ chain
  nothing zero chain = refl
  nothing (suc first) [] = refl
  nothing (suc first) (x ∷ chain) = ap (λ ps. x ∷ ps) (nothing first chain)

pub emptied_more : (chain : List (Option ℕ)) (first n i : ℕ) → first + n < length chain → i ≡ first + n
    → set (emptied chain first n) i None ≡ emptied chain first (n + 1)
emptied_more chain first n i lt is =
    let e : n + 1 ≡ suc n = omega arith in
    ap (λ k. set (emptied chain first n) k None) is
    ∙ ap (λ ps. set ps (first + n) None) (cut_is first n chain (omega (arith, lt)))
    ∙ cut_more first n chain ∙ ap (λ k. cut first k chain) (sym e)
    ∙ sym (cut_is first (n + 1) chain (omega (arith, lt)))

-- once nothing is held, no more is to be emptied
pub emptied_rest : (chain : List (Option ℕ)) (first i n : ℕ) → first + n ≤ length chain → i ≤ n
    → held_count (emptied chain first i) ≡ 0 → emptied chain first i ≡ emptied chain first n
emptied_rest chain first i n le fewer none =
    let part = cut_is first i chain (omega (arith, le, fewer)) in
    part ∙ cut_rest first i n chain fewer (sym (ap held_count part) ∙ none) ∙ sym (cut_is first n chain le)

pub emptied_all : (chain : List (Option ℕ)) → length chain ≡ 256 → emptied chain 0 256 ≡ replicate 256 None
emptied_all chain long =
    let rest : drop (0 + 256) chain ≡ [] = past (0 + 256) chain (omega (arith, long)) in
    ap (λ ps. replicate 256 None ++ ps) rest ∙ append-nil (replicate 256 None) where
      past : (n : ℕ) (chain : List (Option ℕ)) → length chain ≤ n → drop n chain ≡ []
      past zero [] le = refl
      past zero (x ∷ chain) le = absurd (omega (arith, le))
      past (suc n) [] le = refl
      past (suc n) (x ∷ chain) le = past n chain (omega (arith, le))

pub length-emptied : (chain : List (Option ℕ)) (first n : ℕ) → first + n ≤ length chain
    → length (emptied chain first n) ≡ length chain
length-emptied chain first n le = ap length (cut_is first n chain le) ∙ length-cut first n chain

pub emptied_held : (chain : List (Option ℕ)) (first n i slot : ℕ) → first + n ≤ length chain
    → get_or (emptied chain first n) i None ≡ Some slot → get_or chain i None ≡ Some slot
emptied_held chain first n i slot le is =
    cut_held first n chain i slot (sym (ap (λ ps. get_or ps i None) (cut_is first n chain le)) ∙ is)

pub emptied_fewer : (chain : List (Option ℕ)) (first n : ℕ) → first + n ≤ length chain
    → held_count (emptied chain first n) ≤ held_count chain
emptied_fewer chain first n le =
    omega (arith, cut_fewer first n chain, ap held_count (cut_is first n chain le))

pub emptied_blocks : (slots : List (List ℕ)) (chain : List (Option ℕ)) (first n : ℕ) → first + n ≤ length chain
    → map (block_in slots) (emptied chain first n) ≡ without (map (block_in slots) chain) first n
emptied_blocks slots chain first n le =
    ap (map (block_in slots)) (cut_is first n chain le) ∙ cut_blocks slots first n chain
    ∙ sym (cut_is first n (map (block_in slots) chain) (omega (arith, le, length-map chain (block_in slots))))
