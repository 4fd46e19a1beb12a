use Rattle.std.proofs.Common.{take}
use Rattle.replay.proofs.Counting.{Counted}
use Rattle.replay.proofs.summary.counts_of.Given as goal

abbrev pub invariant-loop-line : goal.invariant-loop-line
invariant-loop-line l =
    Counted (take l.line-index l.lines) l.line-index l.counts.sent l.counts.given l.counts.bytes
