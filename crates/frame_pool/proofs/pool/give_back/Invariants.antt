use Rattle.std.proofs.Common.{◌≡◌, ℕ, ◌+◌, ◌-◌, length, vec_capacity}
use Rattle.frame_pool.specs.Pools.{held_count, slots_in, times}
use Rattle.frame_pool.specs.inside.Kept.{emptied}
use Rattle.frame_pool.proofs.pool.give_back.Given as goal

abbrev pub invariant-loop-place : goal.invariant-loop-place
invariant-loop-place l = record {
  chain : l.chain ≡ emptied l.fn.chain l.first (l.place - l.first);
  slots : (k : ℕ) → times k l.returned.items + times k (slots_in l.chain)
      ≡ times k l.fn.returned.items + times k (slots_in l.fn.chain);
  count : length l.returned.items + held_count l.chain
      ≡ length l.fn.returned.items + held_count l.fn.chain;
  room : vec_capacity l.returned ≡ vec_capacity l.fn.returned;
}
