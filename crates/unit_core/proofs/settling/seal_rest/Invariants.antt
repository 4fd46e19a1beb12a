use Rattle.std.proofs.Common.{◌≡◌, ◌+◌, ◌≤◌, ◌++◌, length}
use Rattle.std.specs.Prelude.{option_to_list, IfNone}
use Rattle.ring_link.specs.Links.{pending_towards, IsLinked, IsSettled, SameLink, SameTowards}
use Rattle.ring_link.specs.declared.gate.Side.TheVariants.{Host, Net}
use Rattle.unit_core.specs.inside.Ends.{InOrder, SameMemory}
use Rattle.unit_core.proofs.Settlings.{SealsOn}
use Rattle.unit_core.proofs.settling.seal_rest.Given as goal

abbrev pub invariant-loop-next : goal.invariant-loop-next
invariant-loop-next g l =
    let left = option_to_list l.next ++ pending_towards Net l.link in
    record {
      order : InOrder Net l.fn.link;
      seals : SealsOn g.S.Seal.sealed_text l.net.keys (pending_towards Net l.fn.link) left l.fn.out l.out;
      few : length l.out.sealed.items + length left ≤ 256;
      settled : IfNone l.next (IsSettled Net l.link);
      linked : IsLinked l.link;
      other : SameTowards Host l.fn.link l.link;
      link : SameLink l.fn.link l.link;
      memory : SameMemory l.fn.link l.link;
    }

abbrev pub decreases-loop-next : goal.decreases-loop-next
decreases-loop-next g l = length (option_to_list l.next ++ pending_towards Net l.link)
