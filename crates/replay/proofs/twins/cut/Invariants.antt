use Rattle.std.proofs.Common.{length}
use Rattle.replay.proofs.TwoTexts.{StandsBehind}
use Rattle.replay.proofs.twins.cut.Given as goal

abbrev pub invariant-loop-line : goal.invariant-loop-line
invariant-loop-line l = StandsBehind l.input l.rest

abbrev pub decreases-loop-line : goal.decreases-loop-line
decreases-loop-line l = length l.rest
