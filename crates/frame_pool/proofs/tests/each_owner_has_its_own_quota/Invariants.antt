use Rattle.std.proofs.Common.{◌≡◌, length}
use Rattle.frame_pool.proofs.tests.each_owner_has_its_own_quota.Given as goal

abbrev pub invariant-loop-owner : goal.invariant-loop-owner
invariant-loop-owner g l = length l.pool.quotas ≡ 2
