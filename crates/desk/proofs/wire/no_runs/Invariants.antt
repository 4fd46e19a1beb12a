use Rattle.std.proofs.Common.{◌≡◌, [], map, replicate}
use Rattle.desk.specs.inside.Kept.{items_of}
use Rattle.desk.proofs.wire.no_runs.Given as goal

abbrev pub invariant-loop-address : goal.invariant-loop-address
invariant-loop-address l = map items_of l.runs.items ≡ replicate l._address []
