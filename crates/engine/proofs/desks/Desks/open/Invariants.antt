use Rattle.std.proofs.Common.{◌≡◌, length}
use Rattle.engine.proofs.Starting.{StartBelow}
use Rattle.engine.proofs.desks.Desks.open.Given as goal

abbrev pub invariant-loop-slot : goal.invariant-loop-slot
invariant-loop-slot g l = record {
  count : length l.slots.items ≡ l.slot;
  start : StartBelow g.S.Seal.sealed_text l.roster l.slot l.slots.items;
}
