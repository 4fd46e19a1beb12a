use Rattle.std.proofs.Common.{◌≡◌, map}
use Rattle.engine.specs.inside.Closed.{lines_left, wire_left, tally_left}
use Rattle.engine.proofs.desks.Desks.close.Given as goal

abbrev pub invariant-loop-desk : goal.invariant-loop-desk
invariant-loop-desk g l = record {
  told : map (λ lines. lines.items) l.closed.lines.items ≡ lines_left l.yielded;
  wires : l.closed.wires.items ≡ map wire_left l.yielded;
  tallies : l.closed.tallies.items ≡ map tally_left l.yielded;
}
