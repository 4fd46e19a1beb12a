-- What a contract sees of a whole link, for the direction towards a side.
use Rattle.std.specs.Prelude.{◌≡◌, List, []}
use Rattle.frame.specs.Pieces.{PieceView}
use Rattle.ring_link.specs.EndView.{EndView}
use Rattle.ring_link.specs.Sides.{other_side}
use Rattle.ring_link.specs.Ends.{sent_by, received_by, taken_by, SameEnd, Feeds, ring_between, pending_between}
use Rattle.ring_link.specs.declared.gate.Side.{Side}
use Rattle.ring_link.specs.declared.gate.Side.TheVariants.{Host, Net}
use Rattle.ring_link.specs.declared.link.Link.{Link}

-- the end of a side
abbrev pub end_at : Side → Link → EndView
end_at Host link = link.host
end_at Net link = link.net

-- the end that offers towards a side
abbrev pub end_towards : Side → Link → EndView
end_towards side link = end_at (other_side side) link

-- every piece that came out of the ring towards a side
abbrev pub received_at : Side → Link → List PieceView
received_at side link = received_by (end_at side link)

-- every piece that went into it
abbrev pub sent_towards : Side → Link → List PieceView
sent_towards side link = sent_by (end_towards side link)

-- what waits to go into it
abbrev pub backlog_towards : Side → Link → List PieceView
backlog_towards side link = (end_towards side link).backlog

-- what went into it, and then what waits
abbrev pub taken_towards : Side → Link → List PieceView
taken_towards side link = taken_by (end_towards side link)

-- what is in it
abbrev pub ring_towards : Side → Link → List PieceView
ring_towards side link = ring_between (end_towards side link) (end_at side link)

-- what is on its way towards a side: what is in the ring, and then what waits
abbrev pub pending_towards : Side → Link → List PieceView
pending_towards side link = pending_between (end_towards side link) (end_at side link)

-- The two ends belong together.
abbrev pub AreLinked : EndView → EndView → Type 0
AreLinked host net = Feeds host net × Feeds net host

-- a link whose ends do
abbrev pub IsLinked : Link → Type 0
IsLinked link = AreLinked link.host link.net

-- Nothing is on its way towards a side: all that was sent was received, and nothing waits.
pub record IsSettled (side : Side) (link : Link) : Type 0 where
  pub received : received_at side link ≡ sent_towards side link
  pub backlog : backlog_towards side link ≡ []

-- the ends of the same two rings, with the same room
abbrev pub SameLink : Link → Link → Type 0
SameLink old new = SameEnd old.host new.host × SameEnd old.net new.net

-- the direction towards a side is as it was
pub record SameTowards (side : Side) (old new : Link) : Type 0 where
  pub received : received_at side new ≡ received_at side old
  pub sent : sent_towards side new ≡ sent_towards side old
  pub backlog : backlog_towards side new ≡ backlog_towards side old
