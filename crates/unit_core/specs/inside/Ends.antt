-- The ends of a link in a turn.
use Rattle.std.specs.Prelude.{◌≡◌, ◌++◌}
use Rattle.ring_link.specs.EndView.{EndView}
use Rattle.ring_link.specs.Ends.{SameEnd}
use Rattle.ring_link.specs.Links.{received_at, taken_towards, pending_towards}
use Rattle.ring_link.specs.declared.gate.Side.{Side}
use Rattle.ring_link.specs.declared.link.Link.{Link}

-- the end of the same two rings, with the same room and the same memory
pub record StaysEnd (old new : EndView) : Type 0 where
  pub end : SameEnd old new
  pub capacity : new.capacity ≡ old.capacity

-- what was received by a side and what is on its way are what was taken for it
abbrev pub InOrder : Side → Link → Type 0
InOrder side link = received_at side link ++ pending_towards side link ≡ taken_towards side link

-- the ends of a link have the same memory
pub record SameMemory (old new : Link) : Type 0 where
  pub host : new.host.capacity ≡ old.host.capacity
  pub net : new.net.capacity ≡ old.net.capacity
