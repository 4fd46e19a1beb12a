use Rattle.rtrb.specs.Ring.{sent, received, known_items}
use Rattle.ring_link.proofs.Pending.{known_comes_first}
use Rattle.ring_link.proofs.end.End.hand_over.Goals as goal

pub returns-else-slots_beside-eq0-clause-next : goal.returns-else-slots_beside-eq0-clause-next
returns-else-slots_beside-eq0-clause-next c =
    let seen = c.slots_beside.new.self in
    let sender = c.slots_beside.new.producer in
    rw (
      ← c.self.view_is,
      ← c.to.view_is,
      ← c.slots_beside.ensures.looked.1,
      ← c.slots_beside.ensures.producer.1,
      c.pop_known.ensures.received.0,
    ) (known_comes_first (received seen) (known_items seen) (sent sender) c.self.inside.backlog.items
    (known_items c.pop_known.new.self) c.pop_known.result c.slots_beside.ensures.fifo c.pop_known.ensures.received.1)
