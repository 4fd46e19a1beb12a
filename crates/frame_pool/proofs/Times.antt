-- How many times a slot stands in a list.
use Rattle.std.proofs.Common.{◌≡◌, ◌≢◌, ℕ, zero, suc, ◌+◌, ◌<◌, ◌≤◌, List, [], ◌∷◌, ◌++◌, length, get_or, set, replicate, Option, Some, None, refl, ◌∙◌, ap, arith, inl, inr, cond, true, false, Bool, get_or-set_other}
use Rattle.std.specs.Prelude.{◌==◌}
use Rattle.std.specs.List.{flat_map, range_with_len}
use Rattle.std.proofs.lemmas.Bool.{cases_eq}
use Rattle.std.proofs.lemmas.Bool.Decides.{nat_tests}
use Rattle.std.proofs.lemmas.List.Sums.{sum_by-cons, sum_by-append}
use Rattle.frame_pool.specs.Pools.{slots_in, times}

-- one, where it is this slot
abbrev pub one_if : ℕ → ℕ → ℕ
one_if k slot = cond (slot == k) 1 0

one_if_same : (k : ℕ) → one_if k k ≡ 1
one_if_same k = let same : (k == k) ≡ true = grind (arith, nat_tests) in ap (λ (b : Bool). cond b 1 0) same

one_if_other : (k slot : ℕ) → slot ≢ k → one_if k slot ≡ 0
one_if_other k slot ne =
    let other : (slot == k) ≡ false = grind (arith, nat_tests) in ap (λ (b : Bool). cond b 1 0) other

pub times-cons : (k slot : ℕ) (slots : List ℕ) → times k (slot ∷ slots) ≡ one_if k slot + times k slots
times-cons k slot slots = sum_by-cons (one_if k) slot slots

pub times-append : (k : ℕ) (xs ys : List ℕ) → times k (xs ++ ys) ≡ times k xs + times k ys
times-append k xs ys = sum_by-append (one_if k) xs ys

pub times_alone : (k slot : ℕ) → times k (slot ∷ []) ≡ one_if k slot
times_alone k slot = omega (arith, times-cons k slot [])

pub times_here : (k : ℕ) (slots : List ℕ) → times k (k ∷ slots) ≡ 1 + times k slots
times_here k slots = omega (arith, times-cons k k slots, one_if_same k)

pub times_other : (k slot : ℕ) (slots : List ℕ) → slot ≢ k → times k (slot ∷ slots) ≡ times k slots
times_other k slot slots ne = omega (arith, times-cons k slot slots, one_if_other k slot ne)

pub times_last : (k : ℕ) (slots : List ℕ) → 1 ≤ times k (slots ++ k ∷ [])
times_last k slots = omega (arith, times-append k slots (k ∷ []), times_here k [])

-- ---- slots in a row

pub times_below : (k a n : ℕ) → k < a → times k (range_with_len a n) ≡ 0
times_below k a zero lt = refl
times_below k a (suc n) lt =
    let rest = times_below k (a + 1) n (omega (arith, lt)) in
    times_other k a (range_with_len (a + 1) n) (λ is. omega (arith, is, lt)) ∙ rest

pub times_above : (k a n : ℕ) → a + n ≤ k → times k (range_with_len a n) ≡ 0
times_above k a zero le = refl
times_above k a (suc n) le =
    let rest = times_above k (a + 1) n (omega (arith, le)) in
    times_other k a (range_with_len (a + 1) n) (λ is. omega (arith, is, le)) ∙ rest

pub times_among : (k a n : ℕ) → a ≤ k → k < a + n → times k (range_with_len a n) ≡ 1
times_among k a zero le lt = absurd (omega (arith, le, lt))
times_among k a (suc n) le lt =
    elim (cases_eq a k) [
      | inl is ↦
          (let after = times_below k (a + 1) n (omega (arith, is)) in
          ap (λ (slot : ℕ). times k (slot ∷ range_with_len (a + 1) n)) is
          ∙ times_here k (range_with_len (a + 1) n) ∙ ap (λ m. 1 + m) after)
      | inr ne ↦
          times_other k a (range_with_len (a + 1) n) ne
          ∙ times_among k (a + 1) n (above a k le ne) (omega (arith, lt))
    ]
  where
    above : (a k : ℕ) → a ≤ k → a ≢ k → a + 1 ≤ k
    above a k le ne = grind arith

-- ---- the slots of a chain

pub times_put : (k : ℕ) (chain : List (Option ℕ)) (i slot : ℕ) → i < length chain → get_or chain i None ≡ None
    → times k (slots_in (set chain i (Some slot))) ≡ times k (slots_in chain) + one_if k slot
times_put k [] i slot lt is = absurd (omega (arith, lt))
times_put k (None ∷ chain) zero slot lt is = omega (arith, times-cons k slot (slots_in chain))
times_put k (Some x ∷ chain) zero slot lt is = cc
times_put k (None ∷ chain) (suc i) slot lt is = times_put k chain i slot (omega (arith, lt)) is
times_put k (Some x ∷ chain) (suc i) slot lt is =
    let rest = times_put k chain i slot (omega (arith, lt)) is in
    omega (
      arith,
      times-cons k x (slots_in (set chain i (Some slot))),
      times-cons k x (slots_in chain),
      rest,
    )

pub times_let_go : (k : ℕ) (chain : List (Option ℕ)) (i slot : ℕ) → get_or chain i None ≡ Some slot
    → times k (slots_in (set chain i None)) + one_if k slot ≡ times k (slots_in chain)
times_let_go k [] i slot is = cc
times_let_go k (None ∷ chain) zero slot is = cc
times_let_go k (Some x ∷ chain) zero slot is =
    let same : x ≡ slot = cc in
    omega (arith, times-cons k x (slots_in chain), ap (one_if k) same)
times_let_go k (None ∷ chain) (suc i) slot is = times_let_go k chain i slot is
times_let_go k (Some x ∷ chain) (suc i) slot is =
    let rest = times_let_go k chain i slot is in
    omega (
      arith,
      times-cons k x (slots_in (set chain i None)),
      times-cons k x (slots_in chain),
      rest,
    )

pub times_held : (chain : List (Option ℕ)) (i slot : ℕ) → get_or chain i None ≡ Some slot
    → 1 ≤ times slot (slots_in chain)
times_held chain i slot is = omega (arith, times_let_go slot chain i slot is, one_if_same slot)

pub times_twice : (k : ℕ) (chain : List (Option ℕ)) (i j : ℕ) → j ≢ i → get_or chain i None ≡ Some k
    → get_or chain j None ≡ Some k → 2 ≤ times k (slots_in chain)
times_twice k chain i j ne here there =
    let rest = times_held (set chain i None) j k (get_or-set_other chain i j None None ne ∙ there) in
    omega (arith, times_let_go k chain i k here, one_if_same k, rest)

-- ---- the slots of all chains

pub times_chain : (k : ℕ) (chains : List (List (Option ℕ))) (owner : ℕ)
    → times k (slots_in (get_or chains owner [])) ≤ times k (flat_map slots_in chains)
times_chain k [] owner = omega arith
times_chain k (chain ∷ chains) zero =
    omega (arith, times-append k (slots_in chain) (flat_map slots_in chains))
times_chain k (chain ∷ chains) (suc owner) =
    let rest = times_chain k chains owner in
    omega (arith, times-append k (slots_in chain) (flat_map slots_in chains), rest)

pub times_two : (k : ℕ) (chains : List (List (Option ℕ))) (a b : ℕ) → a ≢ b
    → times k (slots_in (get_or chains a [])) + times k (slots_in (get_or chains b []))
    ≤ times k (flat_map slots_in chains)
times_two k [] a b ne = omega arith
times_two k (chain ∷ chains) zero zero ne = absurd (ne refl)
times_two k (chain ∷ chains) zero (suc b) ne =
    let rest = times_chain k chains b in
    omega (arith, times-append k (slots_in chain) (flat_map slots_in chains), rest)
times_two k (chain ∷ chains) (suc a) zero ne =
    let rest = times_chain k chains a in
    omega (arith, times-append k (slots_in chain) (flat_map slots_in chains), rest)
times_two k (chain ∷ chains) (suc a) (suc b) ne =
    let rest = times_two k chains a b (λ is. ne (ap suc is)) in
    omega (arith, times-append k (slots_in chain) (flat_map slots_in chains), rest)

pub times_set : (k : ℕ) (chains : List (List (Option ℕ))) (owner : ℕ) (new : List (Option ℕ))
    → owner < length chains
    → times k (flat_map slots_in (set chains owner new)) + times k (slots_in (get_or chains owner []))
    ≡ times k (flat_map slots_in chains) + times k (slots_in new)
times_set k [] owner new lt = absurd (omega (arith, lt))
times_set k (chain ∷ chains) zero new lt =
    omega (
      arith,
      times-append k (slots_in chain) (flat_map slots_in chains),
      times-append k (slots_in new) (flat_map slots_in chains),
    )
times_set k (chain ∷ chains) (suc owner) new lt =
    let rest = times_set k chains owner new (omega (arith, lt)) in
    omega (
      arith,
      times-append k (slots_in chain) (flat_map slots_in chains),
      times-append k (slots_in chain) (flat_map slots_in (set chains owner new)),
      rest,
    )

pub no_slots : (n : ℕ) → slots_in (replicate n None) ≡ []
no_slots zero = refl
no_slots (suc n) = no_slots n

pub none_in : (n : ℕ) (chain : List (Option ℕ)) → slots_in chain ≡ []
    → flat_map slots_in (replicate n chain) ≡ []
none_in zero chain none = refl
none_in (suc n) chain none = let rest = none_in n chain none in rw (none, rest) refl
