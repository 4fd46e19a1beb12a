-- What contracts see of a pool.
use Rattle.std.specs.Prelude.{ℕ, List, Option}

pub record PoolView : Type 0 where
  -- how many slots each owner may hold
  pub quotas : List ℕ
  -- the chain of each owner: at each place the slot that it holds there, or none
  pub chains : List (List (Option ℕ))
  -- the block in each slot
  pub slots : List (List ℕ)
  -- the slots that no owner holds
  pub free : List ℕ
  -- how many elements each of its vectors has room for
  pub room : List ℕ
