use Rattle.std.proofs.Common.{take}
use Rattle.replay.specs.Twins.{IsOneLine}
use Rattle.replay.proofs.twins.cut_line.Given as goal

abbrev pub invariant-loop-i : goal.invariant-loop-i
invariant-loop-i l = IsOneLine (take l.i l.text)
