use Rattle.std.proofs.Common.{◌+◌, ◌≤◌}
use Rattle.ring_link.specs.Ends.{spare}
use Rattle.ring_link.specs.Links.{IsLinked}
use Rattle.ring_link.proofs.tests.what_waits_settles_in_order.Given as goal

abbrev pub invariant-loop-message : goal.invariant-loop-message
invariant-loop-message g l = record {
  linked : IsLinked l.link;
  spare : 256 ≤ spare l.link.host + l.message;
}

abbrev pub invariant-loop-message-2 : goal.invariant-loop-message-2
invariant-loop-message-2 g l = IsLinked l.link
