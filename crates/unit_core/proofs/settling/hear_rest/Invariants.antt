use Rattle.std.proofs.Common.{◌≡◌, ◌++◌, length}
use Rattle.std.specs.Prelude.{option_to_list, IfNone}
use Rattle.ring_link.specs.Links.{pending_towards, IsLinked, IsSettled, SameLink, SameTowards}
use Rattle.ring_link.specs.declared.gate.Side.TheVariants.{Host, Net}
use Rattle.unit_core.specs.inside.Messages.{AreFew}
use Rattle.unit_core.specs.inside.Ours.{AreMine}
use Rattle.unit_core.specs.inside.Ends.{InOrder, SameMemory}
use Rattle.unit_core.proofs.Settlings.{HearsOn}
use Rattle.unit_core.proofs.settling.hear_rest.Given as goal

abbrev pub invariant-loop-next : goal.invariant-loop-next
invariant-loop-next l =
    let left = option_to_list l.next ++ pending_towards Host l.link in
    record {
      order : InOrder Host l.fn.link;
      hears : HearsOn l.fn.host l.host l.fn.heard l.number (pending_towards Host l.fn.link) left l.fn.messages
          l.messages;
      few : AreFew l.number l.messages.list;
      mine : AreMine l.fn.host l.number left;
      settled : IfNone l.next (IsSettled Host l.link);
      linked : IsLinked l.link;
      other : SameTowards Net l.fn.link l.link;
      link : SameLink l.fn.link l.link;
      memory : SameMemory l.fn.link l.link;
    }

abbrev pub decreases-loop-next : goal.decreases-loop-next
decreases-loop-next l = length (option_to_list l.next ++ pending_towards Host l.link)
