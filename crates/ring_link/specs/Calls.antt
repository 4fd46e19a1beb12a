-- What the calls of an end are as steps.
use Rattle.std.specs.Prelude.{◌≡◌, ℕ, Bool, true, false, ◌&&◌, List, [], ◌∷◌, ◌++◌, map, filter, replicate}
use Rattle.frame.specs.Pieces.{PieceView}
use Rattle.ring_link.specs.EndView.{EndView}
use Rattle.ring_link.specs.Ends.{sent_by, received_by}
use Rattle.ring_link.specs.Sides.{is_same_side}
use Rattle.ring_link.specs.Links.{received_at, ring_towards, backlog_towards}
use Rattle.ring_link.specs.Steps.{Direction, Kind, Offer, Push, Pop, Drain, Step}
use Rattle.ring_link.specs.declared.gate.Side.{Side}
use Rattle.ring_link.specs.declared.link.Link.{Link}

-- The offering end of a direction: what it sent was received or is in the ring. `before` is what it
-- sent and the other side received, before the direction was at its start.
pub record OffersIn (before : List PieceView) (end : EndView) (d : Direction) : Type 0 where
  pub sent : sent_by end ≡ before ++ (d.received ++ d.ring)
  pub backlog : end.backlog ≡ d.backlog

-- the receiving end of a direction, in the same way
abbrev pub ReceivesIn : List PieceView → EndView → Direction → Type 0
ReceivesIn before end d = received_by end ≡ before ++ d.received

-- the kinds of the steps towards a side that pass a test, in order
abbrev pub kinds_towards : Side → (Kind → Bool) → List Step → List Kind
kinds_towards side test steps =
    map (λ s. s.kind) (filter (λ s. is_same_side side s.side && test s.kind) steps)

-- whether it changes what the offering end knows
abbrev pub is_no_pop : Kind → Bool
is_no_pop Pop = false
is_no_pop Offer = true
is_no_pop Push = true
is_no_pop Drain = true

-- whether it changes what was received
abbrev pub is_receiving : Kind → Bool
is_receiving Offer = false
is_receiving Push = false
is_receiving Pop = true
is_receiving Drain = true

-- an offer, and so many pushes
abbrev pub offer_and_pushes : ℕ → List Kind
offer_and_pushes n = Offer ∷ replicate n Push

-- what is on its way towards a side, both ends being in one thread, with nothing left to be offered
abbrev pub direction_of : Side → Link → Direction
direction_of side link = record {
  todo = [];
  backlog = backlog_towards side link;
  ring = ring_towards side link;
  received = received_at side link;
}

-- the step by which the next piece comes: a drain where the ring is empty, else a pop
abbrev pub next_step : List PieceView → Kind
next_step [] = Drain
next_step (x ∷ ring) = Pop
