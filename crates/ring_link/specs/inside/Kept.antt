-- An end, as it is kept.
use Rattle.std.specs.Prelude.{◌≤◌, length}
use Rattle.std.specs.VecDeque.{deque_capacity}
use Rattle.ring_link.specs.EndView.{EndView}
use Rattle.ring_link.specs.declared.end.End.TheInside.{Inside}

abbrev pub view_of : Inside → EndView
view_of a = record {
  producer = a.producer;
  consumer = a.consumer;
  backlog = a.backlog.items;
  room = a.room;
  capacity = deque_capacity a.backlog;
}

-- The backlog is within its room, and there is memory for all of it.
pub record IsEnd (end : EndView) : Type 0 where
  pub within : length end.backlog ≤ end.room
  pub held : end.room ≤ end.capacity
