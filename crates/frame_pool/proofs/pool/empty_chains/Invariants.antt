use Rattle.std.proofs.Common.{◌≡◌, None, replicate}
use Rattle.frame_pool.proofs.pool.empty_chains.Given as goal

abbrev pub invariant-loop : goal.invariant-loop
invariant-loop l = l.chains.items ≡ replicate l.counter (replicate 256 None)
