-- The two directions between the sides of a unit, and the steps that take pieces along them. In
-- each direction one side offers and the other receives.
use Rattle.std.specs.Prelude.{◌≡◌, ◌<◌, Bool, true, false, List, [], ◌∷◌, ◌++◌, length, All}
use Rattle.frame.specs.Pieces.{PieceView}
use Rattle.ring_link.specs.Sides.{other_side}
use Rattle.ring_link.specs.declared.gate.Side.{Side}
use Rattle.ring_link.specs.declared.gate.Side.TheVariants.{Host, Net}

-- one direction, each list with its oldest piece first
pub record Direction : Type 0 where
  -- what is still to be offered
  pub todo : List PieceView
  -- what was offered and isn't in the ring yet
  pub backlog : List PieceView
  pub ring : List PieceView
  pub received : List PieceView

pub record State : Type 0 where
  pub to_host : Direction
  pub to_net : Direction

-- the direction towards a side
abbrev pub towards : Side → State → Direction
towards Host s = s.to_host
towards Net s = s.to_net

-- the first piece that is still to be offered goes to the back of the backlog
pub record IsOfferStep (old new : Direction) : Type 0 where
  pub piece : PieceView
  pub todo : old.todo ≡ piece ∷ new.todo
  pub backlog : new.backlog ≡ old.backlog ++ piece ∷ []
  pub ring : new.ring ≡ old.ring
  pub received : new.received ≡ old.received

-- the first of the backlog goes to the back of the ring, which has fewer than 16 pieces
pub record IsPushStep (old new : Direction) : Type 0 where
  pub piece : PieceView
  pub room : length old.ring < 16
  pub todo : new.todo ≡ old.todo
  pub backlog : old.backlog ≡ piece ∷ new.backlog
  pub ring : new.ring ≡ old.ring ++ piece ∷ []
  pub received : new.received ≡ old.received

-- the first of the ring is received
pub record IsPopStep (old new : Direction) : Type 0 where
  pub piece : PieceView
  pub todo : new.todo ≡ old.todo
  pub backlog : new.backlog ≡ old.backlog
  pub ring : old.ring ≡ piece ∷ new.ring
  pub received : new.received ≡ old.received ++ piece ∷ []

-- where the ring is empty, the first of the backlog is received
pub record IsDrainStep (old new : Direction) : Type 0 where
  pub piece : PieceView
  pub empty : old.ring ≡ []
  pub todo : new.todo ≡ old.todo
  pub backlog : old.backlog ≡ piece ∷ new.backlog
  pub ring : new.ring ≡ []
  pub received : new.received ≡ old.received ++ piece ∷ []

-- An offer and a push are made by the side that offers, a pop by the side that receives, and a
-- drain by the caller of both, after they have ended.
pub data Kind : Type 0 where
  Offer : Kind
  Push : Kind
  Pop : Kind
  Drain : Kind

-- a step of this kind takes one direction to the other
abbrev pub Moves : Kind → Direction → Direction → Type 0
Moves Offer old new = IsOfferStep old new
Moves Push old new = IsPushStep old new
Moves Pop old new = IsPopStep old new
Moves Drain old new = IsDrainStep old new

-- a step in the direction towards a side
pub record Step : Type 0 where
  pub side : Side
  pub kind : Kind

-- a step moves its own direction, and leaves the other
pub record IsStep (step : Step) (old new : State) : Type 0 where
  pub own : Moves step.kind (towards step.side old) (towards step.side new)
  pub other : towards (other_side step.side) new ≡ towards (other_side step.side) old

-- steps lead from one state to another, one after the other
abbrev pub Leads : List Step → State → State → Type 0
Leads [] old new = new ≡ old
Leads (step ∷ later) old new = (s : State) × IsStep step old s × Leads later s new

-- whether the side that offers makes it
abbrev pub is_offering : Kind → Bool
is_offering Offer = true
is_offering Push = true
is_offering Pop = false
is_offering Drain = false

-- no offer and no push, of either direction, follows a drain
abbrev pub DrainsComeLast : List Step → Type 0
DrainsComeLast [] = Unit {0}
DrainsComeLast (step ∷ later) =
    (step.kind ≡ Drain → All (λ s. is_offering s.kind ≡ false) later) × DrainsComeLast later

-- a schedule: steps, each possible in its state, with the drains last
pub record IsSchedule (steps : List Step) (start end : State) : Type 0 where
  pub leads : Leads steps start end
  pub drains : DrainsComeLast steps

-- a direction with all still to be offered
abbrev pub untouched : List PieceView → Direction
untouched todo = record { todo = todo; backlog = []; ring = []; received = [] }

-- the start: these pieces are to go to the host's side, and these to the network's
abbrev pub start_with : List PieceView → List PieceView → State
start_with to_host to_net = record { to_host = untouched to_host; to_net = untouched to_net }

-- all pieces of a direction, those that are furthest on first
abbrev pub all_pieces : Direction → List PieceView
all_pieces d = d.received ++ d.ring ++ d.backlog ++ d.todo

-- nothing is left to be offered, and nothing is on its way
pub record IsFinished (d : Direction) : Type 0 where
  pub todo : d.todo ≡ []
  pub backlog : d.backlog ≡ []
  pub ring : d.ring ≡ []
