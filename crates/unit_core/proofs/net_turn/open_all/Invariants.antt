use Rattle.std.proofs.Common.{◌≡◌, ◌≤◌, ◌+◌, length, take}
use Rattle.ring_link.specs.Ends.{spare}
use Rattle.unit_core.specs.inside.Sides.{Opens}
use Rattle.unit_core.proofs.net_turn.open_all.Given as goal

abbrev pub invariant-loop-index : goal.invariant-loop-index
invariant-loop-index g l = record {
  opens : Opens g.S.Seal.sealed_text l.net 0 (take l.index l.frames) l.fn.end l.end l.fn.out l.out;
  kinds : length l.out.kinds.items ≤ l.index;
  places : length l.out.places.items ≤ l.index;
}
