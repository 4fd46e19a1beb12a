-- How a desk changes.
use Rattle.std.specs.Prelude.{◌≡◌, ◌≢◌, ℕ, List, [], ◌∷◌, length, map}
use Rattle.seal_core.specs.Sealing.{Sealer}
use Rattle.frame.specs.Frames.{frame_of}
use Rattle.machine.specs.declared.line.OutLine.{OutLine}
use Rattle.net_side.specs.NetView.{NetView}
use Rattle.net_side.specs.declared.inbound.Inbound.{Inbound}
use Rattle.unit_core.specs.Views.{OutgoingView, UnitView, TallyView}
use Rattle.unit_core.specs.Hearing.{StandsForAll, AreInbound, kind_of}
use Rattle.unit_core.specs.Tallies.{capped}
use Rattle.unit_core.specs.declared.rows.FrameKind.{FrameKind}
use Rattle.desk.specs.Batches.{Batches, turn_alone}
use Rattle.desk.specs.Wires.{WireView}
use Rattle.desk.specs.Views.{DeskView}
use Rattle.desk.specs.Deeds.{DeskState, Deed, says, hears, outgoing, does, hearings}
use Rattle.desk.specs.declared.batch.Waiting.{Waiting}
use Rattle.desk.specs.declared.batch.Waiting.TheVariants.{Send, Frame}

-- ---- a batch has its sends apart from its frames

-- the sends, as a unit of this partition is handed them
abbrev pub sends_in : ℕ → List Deed → List OutgoingView
sends_in partition [] = []
sends_in partition (says to message ∷ deeds) =
    outgoing partition to message ∷ sends_in partition deeds
sends_in partition (hears frame inbound ∷ deeds) = sends_in partition deeds

-- the frames
abbrev pub frames_in : List Deed → List (List ℕ)
frames_in [] = []
frames_in (says to message ∷ deeds) = frames_in deeds
frames_in (hears frame inbound ∷ deeds) = frame ∷ frames_in deeds

-- what the frames hold
abbrev pub inbounds_in : List Deed → List Inbound
inbounds_in [] = []
inbounds_in (says to message ∷ deeds) = inbounds_in deeds
inbounds_in (hears frame inbound ∷ deeds) = inbound ∷ inbounds_in deeds

-- which is which, in order
abbrev pub order_in : List Deed → List Waiting
order_in [] = []
order_in (says to message ∷ deeds) =
    Send to (length message) ∷ order_in deeds
order_in (hears frame inbound ∷ deeds) = Frame ∷ order_in deeds

-- ---- where a desk stands

-- a unit, lines and what was sealed are those of a state
pub record Represents
    (sealed : Sealer) (unit : UnitView) (lines : List OutLine) (wire : WireView)
    (st : DeskState) : Type 0 where
  pub address : unit.host.address ≡ st.address
  pub partition : unit.host.partition ≡ st.partition
  pub frame : frame_of sealed unit.net.keys ≡ st.frame
  pub streams : unit.host.streams ≡ st.streams
  pub stands : StandsForAll unit.host st.heard
  pub told : lines ≡ st.lines
  pub wires : wire ≡ st.wire

-- what a unit has counted that is at this state after so many turns; each number stays at its
-- greatest value
abbrev pub tally_at : DeskState → ℕ → TallyView
tally_at st turns = record {
  turns = capped turns;
  sealed = capped (length st.wire.frames);
  ours = capped st.ours;
  given = capped st.given;
}

-- The desk, once its unit has made the turn of the open batch, is at this state; its open batch and
-- the turns that it made are these.
pub record At (sealed : Sealer) (desk : DeskView) (st : DeskState) (b : Batches) : Type 0 where
  -- the state before the deeds of the open batch
  pub start : DeskState
  pub deeds : List Deed
  pub now : Represents sealed desk.unit desk.lines desk.wire start
  pub opened : AreInbound sealed desk.unit.net (frames_in deeds) (inbounds_in deeds)
  pub tally : desk.unit.tally ≡ tally_at start (length b.made)
  pub order : desk.batch.order ≡ order_in deeds
  pub sends : desk.batch.sends ≡ sends_in start.partition deeds
  pub frames : desk.batch.frames ≡ frames_in deeds
  pub open_sends : b.batch.sends ≡ sends_in start.partition deeds
  pub open_frames : b.batch.frames ≡ frames_in deeds
  pub is : does start deeds ≡ st

-- a call takes a desk on: its state by f, its batches by g; the unit opens frames as before
pub record Moves
    (sealed : Sealer) (f : DeskState → DeskState) (g : Batches → Batches) (old new : DeskView) :
    Type 0 where
  pub net : new.unit.net ≡ old.unit.net
  pub at : (st : DeskState) (b : Batches) → At sealed old st b → At sealed new (f st) (g b)

-- the state stays: what is open is done already
abbrev pub same : DeskState → DeskState
same st = st

-- frames come to a desk, whatever they hold
abbrev pub Hears : Sealer → List (List ℕ) → (Batches → Batches) → DeskView → DeskView → Type 0
Hears sealed frames g old new = (inbounds : List Inbound)
    → AreInbound sealed old.unit.net frames inbounds
    → Moves sealed (λ st. does st (hearings frames inbounds)) g old new

-- each frame is something to the unit, and these are its kinds
pub record HaveKinds (sealed : Sealer) (net : NetView) (frames : List (List ℕ))
    (kinds : List FrameKind) : Type 0 where
  pub inbounds : List Inbound
  pub each : AreInbound sealed net frames inbounds
  pub same : kinds ≡ map kind_of inbounds

-- frames, if there are any, are a turn of their own, and these are their kinds
pub record HearsAlone (sealed : Sealer) (frames : List (List ℕ)) (kinds : List FrameKind)
    (old new : DeskView) : Type 0 where
  pub inbounds : List Inbound
  pub each : AreInbound sealed old.unit.net frames inbounds
  pub same : frames ≢ [] → kinds ≡ map kind_of inbounds
  pub moves : Moves sealed (λ st. does st (hearings frames inbounds)) (turn_alone frames) old new

-- what was said to a party is no more kept
abbrev pub told_nothing : DeskState → DeskState
told_nothing st = record st { lines = [] }
