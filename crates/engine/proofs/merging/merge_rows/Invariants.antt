use Rattle.std.proofs.Common.{take}
use Rattle.engine.specs.inside.Merging.{IsMerged}
use Rattle.engine.proofs.merging.merge_rows.Given as goal

abbrev pub invariant-loop-row : goal.invariant-loop-row
invariant-loop-row l = IsMerged l.wires (take l.row-index l.sent) l.taken l.counts l.frames.items
