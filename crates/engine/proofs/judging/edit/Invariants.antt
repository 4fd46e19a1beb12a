use Rattle.std.proofs.Common.{◌≡◌, drop}
use Rattle.machine.specs.FalseBytes.{edited}
use Rattle.engine.proofs.judging.edit.Given as goal

-- the edits that are left make of the frame what all make of it at the start
abbrev pub invariant-loop-offset : goal.invariant-loop-offset
invariant-loop-offset l =
    edited (drop l.offset-index l.edits) l.frame ≡ edited l.edits l.initial.frame
