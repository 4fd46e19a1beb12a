-- A pool, by its owners.
use Rattle.std.specs.Prelude.{◌≡◌, ◌≢◌, ℕ, ◌+◌, ◌-◌, ◌*◌, ◌<◌, ◌≤◌, ◌==◌, List, [], ◌∷◌, ◌++◌, length, take, drop, replicate, map, Bool, true, Option, Some, None, is_some, unwrap_or}
use Rattle.std.specs.List.{flat_map, sum, count_by}
use Rattle.std.proofs.Math.ListN.{get_or}
use Rattle.frame_pool.specs.PoolView.{PoolView}

-- the chain of an owner
abbrev pub chain_of : PoolView → ℕ → List (Option ℕ)
chain_of pool owner = get_or pool.chains owner []

-- the block in the slot at a place
abbrev pub block_in : List (List ℕ) → Option ℕ → Option (List ℕ)
block_in slots None = None
block_in slots (Some slot) = Some (get_or slots slot [])

-- what a chain denotes: the block at each place, or none
abbrev pub denoted : PoolView → List (Option ℕ) → List (Option (List ℕ))
denoted pool chain = map (block_in pool.slots) chain

-- the blocks of an owner, by place
abbrev pub blocks_of : PoolView → ℕ → List (Option (List ℕ))
blocks_of pool owner = denoted pool (chain_of pool owner)

-- whether an owner holds a slot at a place
abbrev pub is_held : PoolView → ℕ → ℕ → Bool
is_held pool owner place = is_some (get_or (blocks_of pool owner) place None)

-- at how many places there is something
abbrev pub held_count : {A : Type 0} → List (Option A) → ℕ
held_count [] = 0
held_count (None ∷ places) = held_count places
held_count (Some x ∷ places) = held_count places + 1

-- how many slots more an owner may hold
abbrev pub free_of : PoolView → ℕ → ℕ
free_of pool owner = get_or pool.quotas owner 0 - held_count (blocks_of pool owner)

-- the chain, the blocks and the free number of every other owner are as they were
abbrev pub SameElsewhere : PoolView → PoolView → ℕ → Type 0
SameElsewhere old new owner = (b : ℕ) → b ≢ owner → (chain_of new b ≡ chain_of old b)
    × (blocks_of new b ≡ blocks_of old b) × (free_of new b ≡ free_of old b)

-- the places with none at so many of them, from the first on
abbrev pub without : List (Option (List ℕ)) → ℕ → ℕ → List (Option (List ℕ))
without places first count =
    take first places ++ (replicate count None ++ drop (first + count) places)

-- the blocks, joined in order of place
abbrev pub joined : List (Option (List ℕ)) → List ℕ
joined places = flat_map (λ block. unwrap_or block []) places

-- a chain of this pool
abbrev pub IsChainOf : PoolView → List (Option ℕ) → Type 0
IsChainOf pool chain = (owner : ℕ) × (chain ≡ chain_of pool owner)

-- so many bytes stand at the places from the first on
abbrev pub HoldsFrom : List (Option (List ℕ)) → ℕ → ℕ → Type 0
HoldsFrom places first n =
    (i : ℕ) → 88 * i < n → is_some (get_or places (first + i) None) ≡ true

-- the slots that a chain holds, in order of place
abbrev pub slots_in : List (Option ℕ) → List ℕ
slots_in [] = []
slots_in (None ∷ places) = slots_in places
slots_in (Some slot ∷ places) = slot ∷ slots_in places

-- the slots on the free list, and then those that each owner holds
abbrev pub all_slots : PoolView → List ℕ
all_slots pool = pool.free ++ flat_map slots_in pool.chains

-- how many times a slot stands in a list
abbrev pub times : ℕ → List ℕ → ℕ
times slot slots = count_by (λ other. other == slot) slots

-- What holds of every pool: each slot below the sum of the quotas is free or is held by one owner
-- at one place, never both and never twice, and no owner holds more than its quota.
pub record IsPool (pool : PoolView) : Type 0 where
  pub owners : length pool.chains ≡ length pool.quotas
  pub places : (owner : ℕ) → owner < length pool.quotas → length (chain_of pool owner) ≡ 256
  pub once : (slot : ℕ) → slot < sum pool.quotas → times slot (all_slots pool) ≡ 1
  pub no_more : (slot : ℕ) → sum pool.quotas ≤ slot → times slot (all_slots pool) ≡ 0
  pub within : (owner : ℕ) → held_count (chain_of pool owner) ≤ get_or pool.quotas owner 0
  pub blocks : (owner place slot : ℕ) → get_or (chain_of pool owner) place None ≡ Some slot
      → length (get_or pool.slots slot []) ≡ 88
