-- A pool, as it is kept.
use Rattle.std.specs.Prelude.{◌≡◌, ◌≢◌, ℕ, ◌+◌, ◌-◌, ◌≤◌, List, [], ◌∷◌, ◌++◌, length, take, drop, replicate, map, Option, None, unwrap_or, vec_capacity}
use Rattle.std.specs.List.{sum, sum_by, range_with_len}
use Rattle.std.proofs.Math.ListN.{get_or}
use Rattle.frame_pool.specs.PoolView.{PoolView}
use Rattle.frame_pool.specs.Pools.{block_in, held_count, IsPool}
use Rattle.frame_pool.specs.declared.pool.Pool.TheInside.{Inside}

-- the slots that no owner holds: those that were given back, and those from the first on that was
-- never used
abbrev pub unheld : List ℕ → ℕ → ℕ → List ℕ
unheld returned used all = returned ++ range_with_len used (all - used)

abbrev pub view_of : Inside → PoolView
view_of a = record {
  quotas = a.quotas.items;
  chains = a.chains.items;
  slots = a.slots.items;
  free = unheld a.returned.items (length a.slots.items) (vec_capacity a.slots);
  room = vec_capacity a.quotas ∷ vec_capacity a.chains ∷ vec_capacity a.slots
      ∷ vec_capacity a.returned ∷ [];
}

-- There is room for as many slots as the quotas allow, and each used one is held or was given back.
pub record IsKept (a : Inside) : Type 0 where
  pub pool : IsPool (view_of a)
  pub few : sum a.quotas.items ≤ 65535
  pub slots : vec_capacity a.slots ≡ sum a.quotas.items
  pub returned : vec_capacity a.returned ≡ sum a.quotas.items
  pub used : length a.slots.items ≡ length a.returned.items + sum_by held_count a.chains.items

-- a block is in this slot, and the other slots are as they were
pub record Stores (old new : List (List ℕ)) (slot : ℕ) (block : List ℕ) : Type 0 where
  pub here : get_or new slot [] ≡ block
  pub others : (k : ℕ) → k ≢ slot → get_or new k [] ≡ get_or old k []

-- places with none at so many of them, from the first on
abbrev pub emptied : List (Option ℕ) → ℕ → ℕ → List (Option ℕ)
emptied places first count =
    take first places ++ (replicate count None ++ drop (first + count) places)

-- the bytes at a place of a chain, or none
abbrev pub bytes_at : List (List ℕ) → List (Option ℕ) → ℕ → List ℕ
bytes_at slots chain place = unwrap_or (get_or (map (block_in slots) chain) place None) []
