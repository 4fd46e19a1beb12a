use Rattle.std.proofs.Common.{◌+◌, ◌≤◌}
use Rattle.ring_link.specs.Ends.{spare, SameEnd}
use Rattle.ring_link.proofs.tests.net_works.Given as goal

abbrev pub invariant-loop-message : goal.invariant-loop-message
invariant-loop-message l = record {
  same : SameEnd l.fn.end l.end;
  came : l.came ≤ l.message;
  spare : 20 ≤ spare l.end + l.message;
}
