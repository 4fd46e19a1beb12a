-- What a contract sees of the ends of a link.
use Rattle.std.specs.Prelude.{◌≡◌, ℕ, ◌-◌, Option, Some, None, List, [], ◌∷◌, ◌++◌, length, take, drop}
use Rattle.frame.specs.Pieces.{PieceView}
use Rattle.rtrb.specs.Ring.{sent, received, known_free, known_items, IsPair, SameProducer, SameConsumer}
use Rattle.ring_link.specs.EndView.{EndView}

-- every piece that the end ever pushed to its ring, the oldest first
abbrev pub sent_by : EndView → List PieceView
sent_by end = sent end.producer

-- every piece that the end ever popped from the other ring, the oldest first
abbrev pub received_by : EndView → List PieceView
received_by end = received end.consumer

-- what the end pushed, and then what waits: an offer adds its piece at the back
abbrev pub taken_by : EndView → List PieceView
taken_by end = sent_by end ++ end.backlog

-- how many offers are sure of their room
abbrev pub spare : EndView → ℕ
spare end = end.room - length end.backlog

-- how many slots of its ring the end knows to be free
abbrev pub known_slots : EndView → ℕ
known_slots end = known_free end.producer

-- the pieces that the end has seen in the other ring
abbrev pub known_pieces : EndView → List PieceView
known_pieces end = known_items end.consumer

-- A piece goes to the back of the backlog, and then a front of the backlog goes to the ring.
pub record IsOffer (old new : EndView) (x : PieceView) : Type 0 where
  -- how many pieces go to the ring
  pub count : ℕ
  pub sent : sent_by new ≡ sent_by old ++ take count (old.backlog ++ x ∷ [])
  pub backlog : new.backlog ≡ drop count (old.backlog ++ x ∷ [])

-- the end of the same two rings, with the same room
abbrev pub SameEnd : EndView → EndView → Type 0
SameEnd old new =
    SameProducer old.producer new.producer × SameConsumer old.consumer new.consumer
    × (new.room ≡ old.room)

-- what the first end pushes, the second pops
abbrev pub Feeds : EndView → EndView → Type 0
Feeds from to = IsPair from.producer to.consumer

-- what the first end pushed and the second hasn't popped
abbrev pub ring_between : EndView → EndView → List PieceView
ring_between from to = drop (length (received_by to)) (sent_by from)

-- what is on its way from the first end to the second: what is in the ring, and then the backlog
abbrev pub pending_between : EndView → EndView → List PieceView
pending_between from to = ring_between from to ++ from.backlog

-- the backlog once the next piece has come: it loses its first where the ring was empty
abbrev pub backlog_left : List PieceView → List PieceView → List PieceView
backlog_left [] backlog = drop 1 backlog
backlog_left (x ∷ ring) backlog = backlog

-- the first of a list, if it has one
abbrev pub first : List PieceView → Option PieceView
first [] = None
first (x ∷ xs) = Some x
