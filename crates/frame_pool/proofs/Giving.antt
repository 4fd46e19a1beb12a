-- The slots of an owner are given back at some of its places.
use Rattle.std.proofs.Common.{◌≡◌, ◌≢◌, ℕ, ◌+◌, ◌-◌, ◌<◌, ◌≤◌, List, [], ◌++◌, length, map, get_or, set, Option, Some, None, refl, sym, ◌∙◌, ap, arith, inl, inr, get_or-set_same, get_or-set_other, length-set}
use Rattle.std.specs.List.{sum, flat_map}
use Rattle.std.proofs.lemmas.Bool.{cases_eq}
use Rattle.frame_pool.specs.PoolView.{PoolView}
use Rattle.frame_pool.specs.Pools.{chain_of, block_in, blocks_of, held_count, slots_in, times, all_slots, without, SameElsewhere, IsPool}
use Rattle.std.specs.Global.{Vec}
use Rattle.std.specs.Vec.{with_item}
use Rattle.std.specs.Prelude.{vec_capacity}
use Rattle.std.specs.List.{range_with_len}
use Rattle.std.proofs.lemmas.List.Sums.{sum_by-set, get_or-le-sum_by}
use Rattle.frame_pool.specs.inside.Kept.{emptied, view_of, IsKept}
use Rattle.frame_pool.specs.declared.pool.Pool.TheInside.{Inside}
use Rattle.frame_pool.proofs.Emptying.{length-emptied, emptied_held, emptied_fewer, emptied_blocks}
use Rattle.frame_pool.proofs.Times.{times-append, times_set}

-- so many places of an owner are emptied, and the slots held there are free
pub record Gives (old new : PoolView) (owner first count : ℕ) : Type 0 where
  pub kept : IsPool old
  pub owner_in : owner < length old.quotas
  pub part : first + count ≤ 256
  pub quotas : new.quotas ≡ old.quotas
  pub slots : new.slots ≡ old.slots
  pub chains : new.chains ≡ set old.chains owner (emptied (chain_of old owner) first count)
  pub given : (k : ℕ) → times k new.free + times k (slots_in (emptied (chain_of old owner) first count))
      ≡ times k old.free + times k (slots_in (chain_of old owner))

within_chain : (old new : PoolView) (owner first count : ℕ) → Gives old new owner first count
    → first + count ≤ length (chain_of old owner)
within_chain old new owner first count g = omega (arith, g.part, g.kept.places owner g.owner_in)

pub own_chain : (old new : PoolView) (owner first count : ℕ) → Gives old new owner first count
    → chain_of new owner ≡ emptied (chain_of old owner) first count
own_chain old new owner first count g =
    ap (λ (chains : List (List (Option ℕ))). get_or chains owner []) g.chains
    ∙ get_or-set_same old.chains owner (emptied (chain_of old owner) first count) []
    (omega (arith, g.owner_in, g.kept.owners))

other_chain : (old new : PoolView) (owner first count : ℕ) → Gives old new owner first count
    → (b : ℕ) → b ≢ owner → chain_of new b ≡ chain_of old b
other_chain old new owner first count g b ne =
    ap (λ (chains : List (List (Option ℕ))). get_or chains b []) g.chains
    ∙ get_or-set_other old.chains owner b (emptied (chain_of old owner) first count) [] ne

pub give_blocks : (old new : PoolView) (owner first count : ℕ) → Gives old new owner first count
    → blocks_of new owner ≡ without (blocks_of old owner) first count
give_blocks old new owner first count g =
    ap (λ (slots : List (List ℕ)). map (block_in slots) (chain_of new owner)) g.slots
    ∙ ap (map (block_in old.slots)) (own_chain old new owner first count g)
    ∙ emptied_blocks old.slots (chain_of old owner) first count (within_chain old new owner first count g)

pub give_others : (old new : PoolView) (owner first count : ℕ) → Gives old new owner first count
    → SameElsewhere old new owner
give_others old new owner first count g b ne =
    let chain = other_chain old new owner first count g b ne in
    let blocks = ap (λ (slots : List (List ℕ)). map (block_in slots) (chain_of new b)) g.slots
    ∙ ap (map (block_in old.slots)) chain in
    let quota = ap (λ (quotas : List ℕ). get_or quotas b 0) g.quotas in
    (chain, blocks, omega (arith, ap held_count blocks, quota))

-- each slot stands in the pool as many times as before
same_times : (old new : PoolView) (owner first count : ℕ) → Gives old new owner first count
    → (k : ℕ) → times k (all_slots new) ≡ times k (all_slots old)
same_times old new owner first count g k =
    let chain = emptied (chain_of old owner) first count in
    omega (
      arith,
      ap (λ (chains : List (List (Option ℕ))). times k (new.free ++ flat_map slots_in chains)) g.chains,
      times-append k new.free (flat_map slots_in (set old.chains owner chain)),
      times-append k old.free (flat_map slots_in old.chains),
      times_set k old.chains owner chain (omega (arith, g.owner_in, g.kept.owners)),
      g.given k,
    )

give_places : (old new : PoolView) (owner first count : ℕ) → Gives old new owner first count
    → (b : ℕ) → b < length old.quotas → length (chain_of new b) ≡ 256
give_places old new owner first count g b lt =
    elim (cases_eq b owner) [
      | inl same ↦
          ap (λ (k : ℕ). length (chain_of new k)) same
          ∙ ap length (own_chain old new owner first count g)
          ∙ length-emptied (chain_of old owner) first count (within_chain old new owner first count g)
          ∙ g.kept.places owner g.owner_in
      | inr ne ↦ ap length (other_chain old new owner first count g b ne) ∙ g.kept.places b lt
    ]

give_within : (old new : PoolView) (owner first count : ℕ) → Gives old new owner first count
    → (b : ℕ) → held_count (chain_of new b) ≤ get_or old.quotas b 0
give_within old new owner first count g b =
    elim (cases_eq b owner) [
      | inl same ↦
          omega (
            arith,
            ap (λ (k : ℕ). held_count (chain_of new k)) same,
            ap held_count (own_chain old new owner first count g),
            emptied_fewer (chain_of old owner) first count (within_chain old new owner first count g),
            g.kept.within owner,
            ap (λ (k : ℕ). get_or old.quotas k 0) same,
          )
      | inr ne ↦
          omega (arith, ap held_count (other_chain old new owner first count g b ne), g.kept.within b)
    ]

give_held : (old new : PoolView) (owner first count : ℕ) → Gives old new owner first count
    → (b i x : ℕ) → get_or (chain_of new b) i None ≡ Some x → length (get_or old.slots x []) ≡ 88
give_held old new owner first count g b i x is =
    let at = λ (chain : List (Option ℕ)). get_or chain i None in
    elim (cases_eq b owner) [
      | inl same ↦
          g.kept.blocks owner i x
          (emptied_held (chain_of old owner) first count i x (within_chain old new owner first count g)
          (sym (ap (λ (k : ℕ). at (chain_of new k)) same ∙ ap at (own_chain old new owner first count g)) ∙ is))
      | inr ne ↦
          g.kept.blocks b i x (sym (ap at (other_chain old new owner first count g b ne)) ∙ is)
    ]

pub give_kept : (old new : PoolView) (owner first count : ℕ) → Gives old new owner first count → IsPool new
give_kept old new owner first count g =
    let quotas = g.quotas in
    let all = ap sum quotas in
    record {
      owners =
          ap length g.chains ∙ length-set old.chains owner (emptied (chain_of old owner) first count)
          ∙ g.kept.owners ∙ sym (ap length quotas);
      places = λ b lt. give_places old new owner first count g b (omega (arith, lt, ap length quotas));
      once = λ k lt. same_times old new owner first count g k ∙ g.kept.once k (omega (arith, lt, all));
      no_more =
          λ k le. same_times old new owner first count g k ∙ g.kept.no_more k (omega (arith, le, all));
      within =
          λ b. omega (
            arith,
            give_within old new owner first count g b,
            ap (λ (quotas : List ℕ). get_or quotas b 0) quotas,
          );
      blocks =
          λ b i x is. ap (λ (slots : List (List ℕ)). length (get_or slots x [])) g.slots
          ∙ give_held old new owner first count g b i x is;
    }

-- ---- the same of a pool as it is kept

-- with this chain at an owner, and these slots given back
abbrev pub with_chain : Inside → ℕ → List (Option ℕ) → Vec ℕ → Inside
with_chain i owner chain returned =
    record { quotas = i.quotas; chains = with_item i.chains owner chain; slots = i.slots; returned = returned }

-- the slots of a chain are given back at some of its places
pub record GivesBack (i : Inside) (owner first count : ℕ) (old new : List (Option ℕ)) (returned : Vec ℕ) : Type 0 where
  pub owner_in : owner < length i.quotas.items
  pub part : first + count ≤ 256
  pub was : old ≡ get_or i.chains.items owner []
  pub chain : new ≡ emptied old first count
  pub slots : (k : ℕ) → times k returned.items + times k (slots_in new)
      ≡ times k i.returned.items + times k (slots_in old)
  pub counted : length returned.items + held_count new ≡ length i.returned.items + held_count old
  pub room : vec_capacity returned ≡ vec_capacity i.returned

pub gives : (i : Inside) (owner first count : ℕ) (old new : List (Option ℕ)) (returned : Vec ℕ) → IsKept i
    → GivesBack i owner first count old new returned
    → Gives (view_of i) (view_of (with_chain i owner new returned)) owner first count
gives i owner first count old new returned kept g =
    let chain = g.chain ∙ ap (λ (c : List (Option ℕ)). emptied c first count) g.was in
    let fresh = range_with_len (length i.slots.items) (vec_capacity i.slots - length i.slots.items) in
    record {
      kept = kept.pool;
      owner_in = g.owner_in;
      part = g.part;
      quotas = refl;
      slots = refl;
      chains = ap (set i.chains.items owner) chain;
      given =
          λ k. omega (
            arith,
            g.slots k,
            times-append k returned.items fresh,
            times-append k i.returned.items fresh,
            ap (λ (c : List (Option ℕ)). times k (slots_in c)) chain,
            ap (λ (c : List (Option ℕ)). times k (slots_in c)) g.was,
          );
    }

pub given_kept : (i : Inside) (owner first count : ℕ) (old new : List (Option ℕ)) (returned : Vec ℕ) → IsKept i
    → GivesBack i owner first count old new returned → IsKept (with_chain i owner new returned)
given_kept i owner first count old new returned kept g =
    record {
      pool =
          give_kept (view_of i) (view_of (with_chain i owner new returned)) owner first count
          (gives i owner first count old new returned kept g);
      few = kept.few;
      slots = kept.slots;
      returned = g.room ∙ kept.returned;
      used =
          omega (
            arith,
            kept.used,
            g.counted,
            sum_by-set held_count i.chains.items owner new [] (omega (arith, g.owner_in, kept.pool.owners)),
            ap held_count g.was,
          );
    }

-- there is room for the slots of a chain
pub room_for : (i : Inside) (owner : ℕ) → IsKept i → owner < length i.quotas.items
    → length i.returned.items + held_count (get_or i.chains.items owner []) ≤ vec_capacity i.returned
room_for i owner kept lt =
    omega (
      arith,
      kept.used,
      kept.slots,
      kept.returned,
      i.slots.ok.0,
      i.slots.ok.1,
      get_or-le-sum_by held_count i.chains.items owner [] (omega (arith, lt, kept.pool.owners)),
    )
