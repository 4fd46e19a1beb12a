use Rattle.std.proofs.Common.{◌≡◌, ℕ, ◌%◌, nat_lt, [], ◌&&◌, if◌then◌else◌}
use Rattle.window.specs.inside.Quarters.{held, Keeps, Turns}
use Rattle.window.proofs.heads.Heads.drop_before.Given as goal

abbrev pub invariant-loop-quarter : goal.invariant-loop-quarter
invariant-loop-quarter l = record {
  keeps : Keeps l.self l.pool;
  turns : Turns l.fn.self l.self l.fn.pool l.pool;
  held : (j : ℕ) → held l.self l.pool j
      ≡ (if nat_lt (j % 4) l.quarter && nat_lt j l.least then [] else held l.fn.self l.fn.pool j);
}
