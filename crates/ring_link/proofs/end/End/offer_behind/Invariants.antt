use Rattle.std.proofs.Common.{◌≡◌, ◌≤◌, ◌∷◌, ◌++◌, [], take, drop, length}
use Rattle.std.specs.VecDeque.{deque_capacity}
use Rattle.rtrb.specs.Ring.{sent, SameProducer}
use Rattle.ring_link.proofs.end.End.offer_behind.Given as goal

abbrev pub invariant-loop-moved : goal.invariant-loop-moved
invariant-loop-moved g l =
    let all = l.fn.self.backlog ++ l.fn.piece ∷ [] in record {
      ring : SameProducer l.fn.self.producer l.self-inside.producer;
      sent : sent l.self-inside.producer ≡ sent l.fn.self.producer ++ take l.moved all;
      backlog : l.self-inside.backlog.items ≡ drop l.moved all;
      within : length l.self-inside.backlog.items ≤ l.self-inside.room;
      consumer : l.self-inside.consumer ≡ l.fn.self.consumer;
      room : l.self-inside.room ≡ l.fn.self.room;
      memory : deque_capacity l.self-inside.backlog ≡ l.fn.self.capacity;
      end : l.moved-end ≡ length all;
    }
