use Rattle.std.proofs.Common.{◌≡◌, length}
use Rattle.frame_pool.proofs.tests.slots_are_used_again.Given as goal

abbrev pub invariant-loop-place : goal.invariant-loop-place
invariant-loop-place g l = length l.pool.quotas ≡ 2

abbrev pub invariant-loop-place-2 : goal.invariant-loop-place-2
invariant-loop-place-2 g l = length l.pool.quotas ≡ 2
