use Rattle.std.proofs.Common.{◌≡◌, ◌≤◌, ◌+◌, ◌++◌, List, length}
use Rattle.frame.specs.Pieces.{PieceView}
use Rattle.ring_link.specs.Ends.{received_by, taken_by}
use Rattle.unit_core.specs.inside.Ours.{mine}
use Rattle.unit_core.specs.inside.Ends.{StaysEnd}
use Rattle.unit_core.specs.inside.Messages.{AreFew}
use Rattle.unit_core.specs.inside.Sides.{HearsSome}
use Rattle.unit_core.proofs.host_turn.hear_some.Given as goal

abbrev pub invariant-loop : goal.invariant-loop
invariant-loop g l = record {
  hears : HearsSome l.counter l.fn.host l.host l.fn.end l.end l.fn.messages l.messages l.heard;
  few : AreFew l.heard l.messages.list;
}
