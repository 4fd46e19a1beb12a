-- A pool whose owners hold nothing, and the slots that were never used.
use Rattle.std.proofs.Common.{◌≡◌, ℕ, ◌-◌, ◌*◌, ◌<◌, ◌≤◌, List, [], ◌++◌, length, get_or, replicate, Option, Some, None, sym, ◌∙◌, ap, ap₂, arith, inl, inr}
use Rattle.std.specs.List.{sum, sum_by, flat_map, range_with_len}
use Rattle.std.proofs.lemmas.List.Folds.{sum_by-replicate}
use Rattle.std.proofs.lemmas.List.{get_or_past, get_or-replicate, length-replicate}
use Rattle.frame_pool.specs.PoolView.{PoolView}
use Rattle.frame_pool.specs.Pools.{held_count, slots_in, times, IsPool}
use Rattle.std.specs.Prelude.{vec_capacity}
use Rattle.frame_pool.specs.inside.Kept.{unheld, view_of, IsKept}
use Rattle.frame_pool.specs.declared.pool.Pool.TheInside.{Inside}
use Rattle.frame_pool.proofs.Counting.{count_none}
use Rattle.frame_pool.proofs.Times.{times-append, times_among, times_above, times_held, times_chain, no_slots, none_in}
use Rattle.frame_pool.proofs.Blocks.{lt_or_le, at_most_once}

-- a slot that was never used was not given back
pub not_returned : (pool : PoolView) (returned : List ℕ) (used : ℕ) → IsPool pool
    → pool.free ≡ unheld returned used (sum pool.quotas) → (k : ℕ) → used ≤ k → times k returned ≡ 0
not_returned pool returned used kept free k le =
    let all = sum pool.quotas in
    let fresh = range_with_len used (all - used) in
    let parts = ap (times k) free ∙ times-append k returned fresh in
    let whole = times-append k pool.free (flat_map slots_in pool.chains) in
    elim (lt_or_le k all) [
      | inl lt ↦
          (let one = times_among k used (all - used) le (omega (arith, le, lt)) in
          omega (arith, parts, whole, at_most_once pool kept k, one))
      | inr above ↦ omega (arith, parts, whole, kept.no_more k above)
    ]

-- each chain is empty
abbrev pub AllEmpty : ℕ → List (List (Option ℕ)) → Type 0
AllEmpty n chains = chains ≡ replicate n (replicate 256 None)

pub chain_empty : (n : ℕ) (chains : List (List (Option ℕ))) → AllEmpty n chains → (owner : ℕ) → owner < n
    → get_or chains owner [] ≡ replicate 256 None
chain_empty n chains empty owner lt =
    ap (λ (cs : List (List (Option ℕ))). get_or cs owner []) empty
    ∙ get_or-replicate n owner (replicate 256 None) [] lt

count_empty : (n : ℕ) (chains : List (List (Option ℕ))) → AllEmpty n chains → (owner : ℕ)
    → held_count (get_or chains owner []) ≡ 0
count_empty n chains empty owner =
    elim (lt_or_le owner n) [
      | inl lt ↦ ap held_count (chain_empty n chains empty owner lt) ∙ count_none ℕ 256
      | inr le ↦
          ap held_count
          (get_or_past chains owner []
          (omega (arith, ap length empty, length-replicate {A = List (Option ℕ)} n (replicate 256 None), le)))
    ]

empty_slots : (n : ℕ) (chains : List (List (Option ℕ))) → AllEmpty n chains → flat_map slots_in chains ≡ []
empty_slots n chains empty = ap (flat_map slots_in) empty ∙ none_in n (replicate 256 None) (no_slots 256)

empty_held : (n : ℕ) (chains : List (List (Option ℕ))) → AllEmpty n chains → (owner i slot : ℕ)
    → get_or (get_or chains owner []) i None ≡ Some slot → ⊥
empty_held n chains empty owner i slot is =
    let some = times_held (get_or chains owner []) i slot is in
    let none = times_chain slot chains owner in
    omega (arith, some, none, ap (times slot) (empty_slots n chains empty))

pub opened : (pool : PoolView) → AllEmpty (length pool.quotas) pool.chains
    → pool.free ≡ range_with_len 0 (sum pool.quotas) → IsPool pool
opened pool empty free =
    let n = length pool.quotas in
    let all = sum pool.quotas in
    let parts = λ (k : ℕ). ap (λ (slots : List ℕ). times k (pool.free ++ slots)) (empty_slots n pool.chains empty)
    ∙ times-append k pool.free [] in
    record {
      owners = ap length empty ∙ length-replicate {A = List (Option ℕ)} n (replicate 256 None);
      places =
          λ owner lt. ap length (chain_empty n pool.chains empty owner lt)
          ∙ length-replicate {A = Option ℕ} 256 None;
      once = λ k lt. omega (arith, parts k, ap (times k) free, times_among k 0 all (omega arith) (omega (arith, lt)));
      no_more = λ k le. omega (arith, parts k, ap (times k) free, times_above k 0 all (omega (arith, le)));
      within = λ owner. omega (arith, count_empty n pool.chains empty owner);
      blocks = λ owner i slot is. absurd (empty_held n pool.chains empty owner i slot is);
    }

pub none_held : (n : ℕ) (chains : List (List (Option ℕ))) → AllEmpty n chains → sum_by held_count chains ≡ 0
none_held n chains empty =
    omega (
      arith,
      ap (sum_by held_count) empty,
      sum_by-replicate (held_count {A = ℕ}) n (replicate 256 None),
      ap (λ (m : ℕ). n * m) (count_none ℕ 256),
    )

-- ---- a pool as it is opened

pub record Opens (i : Inside) (quotas : List ℕ) : Type 0 where
  pub few : sum quotas ≤ 65535
  pub quotas_are : i.quotas.items ≡ quotas
  pub chains : AllEmpty (length quotas) i.chains.items
  pub slots : i.slots.items ≡ []
  pub returned : i.returned.items ≡ []
  pub slot_room : vec_capacity i.slots ≡ sum quotas
  pub returned_room : vec_capacity i.returned ≡ sum quotas

all_unused : (returned : List ℕ) (used all n : ℕ) → returned ≡ [] → used ≡ 0 → all ≡ n
    → unheld returned used all ≡ range_with_len 0 n
all_unused returned used all n none unused is =
    let rest : all - used ≡ n = omega (arith, unused, is) in
    ap (λ (slots : List ℕ). slots ++ range_with_len used (all - used)) none ∙ ap₂ range_with_len unused rest

pub opened_kept : (i : Inside) (quotas : List ℕ) → Opens i quotas → IsKept i
opened_kept i quotas o =
    let all = ap sum o.quotas_are in
    let empty : AllEmpty (length i.quotas.items) i.chains.items =
    o.chains ∙ ap (λ (n : ℕ). replicate n (replicate 256 None)) (sym (ap length o.quotas_are)) in
    record {
      pool =
          opened (view_of i) empty
          (all_unused i.returned.items (length i.slots.items) (vec_capacity i.slots) (sum i.quotas.items) o.returned
          (ap length o.slots) (o.slot_room ∙ sym all));
      few = omega (arith, all, o.few);
      slots = o.slot_room ∙ sym all;
      returned = o.returned_room ∙ sym all;
      used =
          omega (
            arith,
            ap length o.slots,
            ap length o.returned,
            none_held (length i.quotas.items) i.chains.items empty,
          );
    }
