use Rattle.std.proofs.Common.{◌≡◌, ◌≤◌, length}
use Rattle.unit_core.specs.inside.Sides.{SealsSome}
use Rattle.unit_core.proofs.net_turn.seal_some.Given as goal

abbrev pub invariant-loop : goal.invariant-loop
invariant-loop g l = record {
  seals : SealsSome g.S.Seal.sealed_text l.net.keys l.counter l.fn.end l.end l.fn.out l.out;
  sealed : length l.out.sealed.items ≤ l.counter;
}
