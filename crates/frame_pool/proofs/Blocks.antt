-- What stands in the slots of a chain.
use Rattle.std.proofs.Common.{◌≡◌, ℕ, zero, suc, ◌+◌, ◌*◌, ◌<◌, ◌≤◌, List, [], ◌∷◌, ◌++◌, length, map, get_or, set, take, drop, Option, Some, None, is_some, true, false, refl, sym, ◌∙◌, ap, arith, ◌⊎◌, inl, inr, get_or-set_same, get_or-set_other}
use Rattle.std.specs.Prelude.{unwrap_or}
use Rattle.std.specs.List.{sum, flat_map}
use Rattle.std.proofs.lemmas.List.{get_or_past, length-map, drop_at, drop-drop, drop_more, take-append-le}
use Rattle.std.proofs.Math.ListN.{get_or-map}
use Rattle.std.proofs.Math.Seq.{take-add}
use Rattle.frame_pool.specs.PoolView.{PoolView}
use Rattle.frame_pool.specs.Pools.{chain_of, block_in, denoted, slots_in, times, all_slots, joined, IsPool}
use Rattle.frame_pool.specs.inside.Kept.{Stores}
use Rattle.frame_pool.proofs.Times.{times-append, times_here, times_other, times_chain}
use Rattle.std.proofs.lemmas.Bool.{cases_eq}

pub lt_or_le : (a b : ℕ) → (a < b) ⊎ (b ≤ a)
lt_or_le a b = grind arith

-- ---- a slot that no chain holds

pub at_most_once : (pool : PoolView) → IsPool pool → (k : ℕ) → times k (all_slots pool) ≤ 1
at_most_once pool kept k =
    elim (lt_or_le k (sum pool.quotas)) [
      | inl below ↦ omega (arith, kept.once k below)
      | inr above ↦ omega (arith, kept.no_more k above)
    ]

pub free_not_held : (pool : PoolView) → IsPool pool → (slot : ℕ) → 1 ≤ times slot pool.free → (owner : ℕ)
    → times slot (slots_in (chain_of pool owner)) ≡ 0
free_not_held pool kept slot free owner =
    omega (
      arith,
      at_most_once pool kept slot,
      times-append slot pool.free (flat_map slots_in pool.chains),
      times_chain slot pool.chains owner,
      free,
    )

stored_apart : (old new : List (List ℕ)) (slot : ℕ) (block : List ℕ) → Stores old new slot block
    → (x : ℕ) (slots : List ℕ) → times slot (x ∷ slots) ≡ 0
    → (get_or new x [] ≡ get_or old x []) × (times slot slots ≡ 0)
stored_apart old new slot block stored x slots none =
    elim (cases_eq x slot) [
      | inl is ↦
          (let own = ap (λ (k : ℕ). times slot (k ∷ slots)) is in
          absurd (omega (arith, own, none, times_here slot slots)))
      | inr ne ↦ (stored.others x ne, sym (times_other slot x slots ne) ∙ none)
    ]

-- a chain that does not hold the slot denotes what it did
pub denoted_apart : (old new : List (List ℕ)) (slot : ℕ) (block : List ℕ) → Stores old new slot block
    → (chain : List (Option ℕ)) → times slot (slots_in chain) ≡ 0
    → map (block_in new) chain ≡ map (block_in old) chain
denoted_apart old new slot block stored [] none = refl
denoted_apart old new slot block stored (None ∷ chain) none =
    ap (λ ps. None ∷ ps) (denoted_apart old new slot block stored chain none)
denoted_apart old new slot block stored (Some x ∷ chain) none =
    let apart = stored_apart old new slot block stored x (slots_in chain) none in
    let rest = denoted_apart old new slot block stored chain apart.1 in
    let first = apart.0 in
    rw (first, rest) refl

-- ---- a place that is held

pub held_below : {A : Type 0} (places : List (Option A)) (i : ℕ) → is_some (get_or places i None) ≡ true
    → i < length places
held_below places i held =
    elim (lt_or_le i (length places)) [
      | inl lt ↦ lt
      | inr le ↦
          (let none : is_some (get_or places i None) ≡ false = ap is_some (get_or_past places i None le) in cc)
    ]

pub chain_short : (pool : PoolView) → IsPool pool → (owner : ℕ) → length (chain_of pool owner) ≤ 256
chain_short pool kept owner =
    elim (lt_or_le owner (length pool.quotas)) [
      | inl lt ↦ omega (arith, kept.places owner lt)
      | inr le ↦
          (let none = ap length (get_or_past pool.chains owner [] (omega (arith, le, kept.owners))) in
          omega (arith, none))
    ]

pub place_small : (pool : PoolView) → IsPool pool → (owner place : ℕ) (chain : List (Option ℕ))
    → chain ≡ chain_of pool owner → is_some (get_or (denoted pool chain) place None) ≡ true → place < 256
place_small pool kept owner place chain own held =
    omega (
      arith,
      held_below (denoted pool chain) place held,
      length-map chain (block_in pool.slots),
      ap length own,
      chain_short pool kept owner,
    )

-- a block has a slot
pub slot_there : (slots : List (List ℕ)) (slot : ℕ) → length (get_or slots slot []) ≡ 88 → slot < length slots
slot_there slots slot full =
    elim (lt_or_le slot (length slots)) [
      | inl lt ↦ lt
      | inr le ↦ absurd (omega (arith, ap length (get_or_past slots slot [] le), full))
    ]

pub held_full : (pool : PoolView) → IsPool pool → (owner place slot : ℕ) (chain : List (Option ℕ))
    → chain ≡ chain_of pool owner → get_or chain place None ≡ Some slot
    → length (get_or pool.slots slot []) ≡ 88
held_full pool kept owner place slot chain own is =
    kept.blocks owner place slot (sym (ap (λ (ps : List (Option ℕ)). get_or ps place None) own) ∙ is)

-- ---- blocks, joined

-- the block at a place, or no bytes
abbrev pub block_at : List (Option (List ℕ)) → ℕ → List ℕ
block_at places i = unwrap_or (get_or places i None) []

-- each place that is held has a block of 88 bytes
abbrev pub AreFull : List (Option (List ℕ)) → Type 0
AreFull places = (i : ℕ) → is_some (get_or places i None) ≡ true → length (block_at places i) ≡ 88

pub joined_next : (places : List (Option (List ℕ))) (i : ℕ) → i < length places
    → joined (drop i places) ≡ block_at places i ++ joined (drop (i + 1) places)
joined_next places i lt = ap joined (drop_more places i None lt)

-- past the first blocks, all held, the others follow
pub joined_past : (places : List (Option (List ℕ))) (first i : ℕ) → AreFull places
    → ((k : ℕ) → k < i → is_some (get_or places (first + k) None) ≡ true)
    → drop (88 * i) (joined (drop first places)) ≡ joined (drop (first + i) places)
joined_past places first zero full held =
    let e : first + 0 ≡ first = omega arith in ap (λ k. joined (drop k places)) (sym e)
joined_past places first (suc i) full held =
    let before = joined_past places first i full (λ k lt. held k (omega (arith, lt))) in
    let here = held i (omega arith) in
    let next = joined_next places (first + i) (held_below places (first + i) here) in
    let e : 88 * suc i ≡ 88 * i + 88 = omega arith in
    let e' : first + i + 1 ≡ first + suc i = omega arith in
    ap (λ k. drop k (joined (drop first places))) e
    ∙ sym (drop-drop 88 (88 * i) (joined (drop first places)))
    ∙ ap (drop 88) (before ∙ next)
    ∙ drop_at (block_at places (first + i)) (joined (drop (first + i + 1) places)) 88 (full (first + i) here)
    ∙ ap (λ k. joined (drop k places)) e'

-- the front of the next block follows those before it
pub joined_more : (places : List (Option (List ℕ))) (first i n : ℕ) → AreFull places
    → ((k : ℕ) → k < i + 1 → is_some (get_or places (first + k) None) ≡ true) → n ≤ 88
    → take (88 * i) (joined (drop first places)) ++ take n (block_at places (first + i))
    ≡ take (88 * i + n) (joined (drop first places))
joined_more places first i n full held le =
    let here = held i (omega arith) in
    let past = joined_past places first i full (λ k lt. held k (omega (arith, lt))) in
    let next = joined_next places (first + i) (held_below places (first + i) here) in
    let front = take-append-le n (block_at places (first + i)) (joined (drop (first + i + 1) places))
    (omega (arith, full (first + i) here, le)) in
    ap (λ (bytes : List ℕ). take (88 * i) (joined (drop first places)) ++ bytes)
    (sym (ap (take n) (past ∙ next) ∙ front))
    ∙ sym (take-add (88 * i) n (joined (drop first places)))

pub blocks_full : (pool : PoolView) → IsPool pool → (owner : ℕ) (chain : List (Option ℕ))
    → chain ≡ chain_of pool owner → AreFull (denoted pool chain)
blocks_full pool kept owner chain own i held =
    let at : get_or (denoted pool chain) i None ≡ block_in pool.slots (get_or chain i None) =
    get_or-map (block_in pool.slots) chain i None in
    let some : is_some (block_in pool.slots (get_or chain i None)) ≡ true = sym (ap is_some at) ∙ held in
    ap (λ (block : Option (List ℕ)). length (unwrap_or block [])) at
    ∙ full (get_or chain i None) some (λ slot is. held_full pool kept owner i slot chain own is) where
      full : (o : Option ℕ) → is_some (block_in pool.slots o) ≡ true
          → ((slot : ℕ) → o ≡ Some slot → length (get_or pool.slots slot []) ≡ 88)
          → length (unwrap_or (block_in pool.slots o) []) ≡ 88
      full None some each = cc
      full (Some slot) some each = each slot refl

pub stores_at : (slots : List (List ℕ)) (i slot : ℕ) (block : List ℕ) → i ≡ slot → slot < length slots
    → Stores slots (set slots i block) slot block
stores_at slots i slot block is lt = record {
  here = ap (λ k. get_or (set slots k block) slot []) is ∙ get_or-set_same slots slot block [] lt;
  others =
      λ k ne. ap (λ j. get_or (set slots j block) k []) is ∙ get_or-set_other slots slot k block [] ne;
}
