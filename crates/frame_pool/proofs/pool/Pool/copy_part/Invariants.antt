use Rattle.std.proofs.Common.{◌≡◌, ◌*◌, take, drop}
use Rattle.std.specs.Prelude.{min}
use Rattle.frame_pool.specs.Pools.{denoted, joined}
use Rattle.frame_pool.proofs.pool.Pool.copy_part.Given as goal

abbrev pub invariant-loop-i : goal.invariant-loop-i
invariant-loop-i l =
    take (min l.length (88 * l.i)) l.out
    ≡ take (min l.length (88 * l.i)) (joined (drop l.first (denoted l.self l.chain)))
