-- A block is put at an empty place of an owner.
use Rattle.std.proofs.Common.{◌≡◌, ◌≢◌, ℕ, ◌+◌, ◌<◌, ◌≤◌, List, [], ◌∷◌, ◌++◌, length, map, get_or, set, Option, Some, None, sym, ◌∙◌, ap, arith, inl, inr, get_or-set_same, get_or-set_other, length-set}
use Rattle.std.specs.List.{sum, sum_by, flat_map}
use Rattle.std.proofs.lemmas.List.Sums.{sum_by-set}
use Rattle.std.proofs.lemmas.Bool.{cases_eq}
use Rattle.std.proofs.lemmas.List.{map-set}
use Rattle.frame_pool.specs.PoolView.{PoolView}
use Rattle.frame_pool.specs.Pools.{chain_of, block_in, blocks_of, free_of, held_count, slots_in, times, all_slots, SameElsewhere, IsPool}
use Rattle.frame_pool.specs.inside.Kept.{Stores}
use Rattle.frame_pool.proofs.Counting.{count_put, count_denoted}
use Rattle.frame_pool.proofs.Times.{times-cons, times-append, times_here, times_put, times_held, times_set}
use Rattle.frame_pool.proofs.Blocks.{free_not_held, denoted_apart}

-- a free slot is put at an empty place of an owner, with a block in it
pub record Puts (old new : PoolView) (owner place slot : ℕ) (block : List ℕ) : Type 0 where
  pub kept : IsPool old
  pub owner_in : owner < length old.quotas
  pub empty : get_or (chain_of old owner) place None ≡ None
  pub place_in : place < 256
  pub free : held_count (chain_of old owner) < get_or old.quotas owner 0
  pub full : length block ≡ 88
  pub quotas : new.quotas ≡ old.quotas
  pub chains : new.chains ≡ set old.chains owner (set (chain_of old owner) place (Some slot))
  pub stored : Stores old.slots new.slots slot block
  pub taken : (k : ℕ) → times k old.free ≡ times k (slot ∷ new.free)

pub slot_free : (old new : PoolView) (owner place slot : ℕ) (block : List ℕ) → Puts old new owner place slot block
    → (b : ℕ) → times slot (slots_in (chain_of old b)) ≡ 0
slot_free old new owner place slot block p b =
    free_not_held old p.kept slot (omega (arith, p.taken slot, times_here slot new.free)) b

own_chain : (old new : PoolView) (owner place slot : ℕ) (block : List ℕ) → Puts old new owner place slot block
    → chain_of new owner ≡ set (chain_of old owner) place (Some slot)
own_chain old new owner place slot block p =
    ap (λ (chains : List (List (Option ℕ))). get_or chains owner []) p.chains
    ∙ get_or-set_same old.chains owner (set (chain_of old owner) place (Some slot)) []
    (omega (arith, p.owner_in, p.kept.owners))

other_chain : (old new : PoolView) (owner place slot : ℕ) (block : List ℕ) → Puts old new owner place slot block
    → (b : ℕ) → b ≢ owner → chain_of new b ≡ chain_of old b
other_chain old new owner place slot block p b ne =
    ap (λ (chains : List (List (Option ℕ))). get_or chains b []) p.chains
    ∙ get_or-set_other old.chains owner b (set (chain_of old owner) place (Some slot)) [] ne

other_blocks : (old new : PoolView) (owner place slot : ℕ) (block : List ℕ) → Puts old new owner place slot block
    → (b : ℕ) → b ≢ owner → blocks_of new b ≡ blocks_of old b
other_blocks old new owner place slot block p b ne =
    ap (map (block_in new.slots)) (other_chain old new owner place slot block p b ne)
    ∙ denoted_apart old.slots new.slots slot block p.stored (chain_of old b)
    (slot_free old new owner place slot block p b)

pub put_others : (old new : PoolView) (owner place slot : ℕ) (block : List ℕ) → Puts old new owner place slot block
    → SameElsewhere old new owner
put_others old new owner place slot block p b ne =
    let same = other_blocks old new owner place slot block p b ne in
    let quota = ap (λ (quotas : List ℕ). get_or quotas b 0) p.quotas in (
      other_chain old new owner place slot block p b ne,
      same,
      omega (arith, ap held_count same, quota),
    )

pub put_block : (old new : PoolView) (owner place slot : ℕ) (block : List ℕ) → Puts old new owner place slot block
    → blocks_of new owner ≡ set (blocks_of old owner) place (Some block)
put_block old new owner place slot block p =
    ap (map (block_in new.slots)) (own_chain old new owner place slot block p)
    ∙ map-set (block_in new.slots) (chain_of old owner) place (Some slot)
    ∙ ap (λ (bytes : List ℕ). set (map (block_in new.slots) (chain_of old owner)) place (Some bytes)) p.stored.here
    ∙ ap (λ (places : List (Option (List ℕ))). set places place (Some block))
    (denoted_apart old.slots new.slots slot block p.stored (chain_of old owner)
    (slot_free old new owner place slot block p owner))

own_count : (old new : PoolView) (owner place slot : ℕ) (block : List ℕ) → Puts old new owner place slot block
    → held_count (chain_of new owner) ≡ held_count (chain_of old owner) + 1
own_count old new owner place slot block p =
    ap held_count (own_chain old new owner place slot block p)
    ∙ count_put (chain_of old owner) place slot
    (omega (arith, p.place_in, p.kept.places owner p.owner_in)) p.empty

pub put_count : (old new : PoolView) (owner place slot : ℕ) (block : List ℕ) → Puts old new owner place slot block
    → sum_by held_count new.chains ≡ sum_by held_count old.chains + 1
put_count old new owner place slot block p =
    let chain = set (chain_of old owner) place (Some slot) in
    omega (
      arith,
      ap (sum_by held_count) p.chains,
      sum_by-set held_count old.chains owner chain [] (omega (arith, p.owner_in, p.kept.owners)),
      own_count old new owner place slot block p,
      ap held_count (own_chain old new owner place slot block p),
    )

pub put_free : (old new : PoolView) (owner place slot : ℕ) (block : List ℕ) → Puts old new owner place slot block
    → free_of new owner + 1 ≡ free_of old owner
put_free old new owner place slot block p =
    let quota = ap (λ (quotas : List ℕ). get_or quotas owner 0) p.quotas in
    omega (
      arith,
      own_count old new owner place slot block p,
      count_denoted new.slots (chain_of new owner),
      count_denoted old.slots (chain_of old owner),
      p.free,
      quota,
    )

-- each slot stands in the pool as many times as before
same_times : (old new : PoolView) (owner place slot : ℕ) (block : List ℕ) → Puts old new owner place slot block
    → (k : ℕ) → times k (all_slots new) ≡ times k (all_slots old)
same_times old new owner place slot block p k =
    let chain = set (chain_of old owner) place (Some slot) in
    omega (
      arith,
      ap (λ (chains : List (List (Option ℕ))). times k (new.free ++ flat_map slots_in chains)) p.chains,
      times-append k new.free (flat_map slots_in (set old.chains owner chain)),
      times-append k old.free (flat_map slots_in old.chains),
      times_set k old.chains owner chain (omega (arith, p.owner_in, p.kept.owners)),
      times_put k (chain_of old owner) place slot (omega (arith, p.place_in, p.kept.places owner p.owner_in)) p.empty,
      p.taken k,
      times-cons k slot new.free,
    )

own_blocks : (old new : PoolView) (owner place slot : ℕ) (block : List ℕ) → Puts old new owner place slot block
    → (b i x : ℕ) → get_or (chain_of old b) i None ≡ Some x → length (get_or new.slots x []) ≡ 88
own_blocks old new owner place slot block p b i x is =
    elim (cases_eq x slot) [
      | inl same ↦
          (let none = slot_free old new owner place slot block p b in
          let some = times_held (chain_of old b) i x is in
          absurd (omega (arith, none, some, ap (λ (k : ℕ). times k (slots_in (chain_of old b))) same)))
      | inr ne ↦ ap length (p.stored.others x ne) ∙ p.kept.blocks b i x is
    ]

put_at : (old new : PoolView) (owner place slot : ℕ) (block : List ℕ) → Puts old new owner place slot block
    → (i x : ℕ) → get_or (set (chain_of old owner) place (Some slot)) i None ≡ Some x
    → length (get_or new.slots x []) ≡ 88
put_at old new owner place slot block p i x is =
    elim (cases_eq i place) [
      | inl same ↦
          (let here = get_or-set_same (chain_of old owner) place (Some slot) None
          (omega (arith, p.place_in, p.kept.places owner p.owner_in)) in
          let at = ap (λ (k : ℕ). get_or (set (chain_of old owner) place (Some slot)) k None) same in
          let is_slot : x ≡ slot = cc in
          ap (λ (k : ℕ). length (get_or new.slots k [])) is_slot ∙ ap length p.stored.here ∙ p.full)
      | inr ne ↦
          own_blocks old new owner place slot block p owner i x
          (sym (get_or-set_other (chain_of old owner) place i (Some slot) None ne) ∙ is)
    ]

put_places : (old new : PoolView) (owner place slot : ℕ) (block : List ℕ) → Puts old new owner place slot block
    → (b : ℕ) → b < length old.quotas → length (chain_of new b) ≡ 256
put_places old new owner place slot block p b lt =
    elim (cases_eq b owner) [
      | inl same ↦
          ap (λ (k : ℕ). length (chain_of new k)) same
          ∙ ap length (own_chain old new owner place slot block p)
          ∙ length-set (chain_of old owner) place (Some slot) ∙ p.kept.places owner p.owner_in
      | inr ne ↦ ap length (other_chain old new owner place slot block p b ne) ∙ p.kept.places b lt
    ]

put_within : (old new : PoolView) (owner place slot : ℕ) (block : List ℕ) → Puts old new owner place slot block
    → (b : ℕ) → held_count (chain_of new b) ≤ get_or old.quotas b 0
put_within old new owner place slot block p b =
    elim (cases_eq b owner) [
      | inl same ↦
          omega (
            arith,
            own_count old new owner place slot block p,
            p.free,
            ap (λ (k : ℕ). held_count (chain_of new k)) same,
            ap (λ (k : ℕ). get_or old.quotas k 0) same,
          )
      | inr ne ↦
          omega (
            arith,
            ap held_count (other_chain old new owner place slot block p b ne),
            p.kept.within b,
          )
    ]

put_blocks : (old new : PoolView) (owner place slot : ℕ) (block : List ℕ) → Puts old new owner place slot block
    → (b i x : ℕ) → get_or (chain_of new b) i None ≡ Some x → length (get_or new.slots x []) ≡ 88
put_blocks old new owner place slot block p b i x is =
    let at = λ (chain : List (Option ℕ)). get_or chain i None in
    elim (cases_eq b owner) [
      | inl same ↦
          put_at old new owner place slot block p i x
          (sym (ap (λ (k : ℕ). at (chain_of new k)) same ∙ ap at (own_chain old new owner place slot block p)) ∙ is)
      | inr ne ↦
          own_blocks old new owner place slot block p b i x
          (sym (ap at (other_chain old new owner place slot block p b ne)) ∙ is)
    ]

pub put_kept : (old new : PoolView) (owner place slot : ℕ) (block : List ℕ) → Puts old new owner place slot block
    → IsPool new
put_kept old new owner place slot block p =
    let quotas = p.quotas in
    let all = ap sum quotas in
    record {
      owners =
          ap length p.chains ∙ length-set old.chains owner (set (chain_of old owner) place (Some slot))
          ∙ p.kept.owners ∙ sym (ap length quotas);
      places = λ b lt. put_places old new owner place slot block p b (omega (arith, lt, ap length quotas));
      once =
          λ k lt. same_times old new owner place slot block p k ∙ p.kept.once k (omega (arith, lt, all));
      no_more =
          λ k le. same_times old new owner place slot block p k ∙ p.kept.no_more k (omega (arith, le, all));
      within =
          λ b. omega (
            arith,
            put_within old new owner place slot block p b,
            ap (λ (quotas : List ℕ). get_or quotas b 0) quotas,
          );
      blocks = put_blocks old new owner place slot block p;
    }
