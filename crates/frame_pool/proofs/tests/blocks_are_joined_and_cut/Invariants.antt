use Rattle.std.proofs.Common.{◌≡◌, length}
use Rattle.frame_pool.proofs.tests.blocks_are_joined_and_cut.Given as goal

abbrev pub invariant-loop-place : goal.invariant-loop-place
invariant-loop-place g l = length l.pool.quotas ≡ 2
