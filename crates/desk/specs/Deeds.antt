-- What a unit does, deed by deed, as if each were a turn of its own.
use Rattle.std.specs.Prelude.{ℕ, ◌+◌, List, [], ◌∷◌, ◌++◌, length, map, ◌==◌, Option, Result, Ok, Err, if◌then◌else◌}
use Rattle.seal_core.specs.declared.KeyPair.{KeyPair}
use Rattle.seal_core.specs.Sealing.{Sealer}
use Rattle.levels.specs.declared.level.Party.{Party}
use Rattle.levels.specs.declared.level.Party.TheVariants.{Host, Manager}
use Rattle.frame.specs.Pieces.{PieceView}
use Rattle.frame.specs.Frames.{frame_of}
use Rattle.frame.specs.declared.refused.SendRefused.{SendRefused}
use Rattle.window.specs.ListRule.{completes, body}
use Rattle.net_side.specs.declared.inbound.Inbound.{Inbound}
use Rattle.net_side.specs.declared.inbound.Inbound.TheVariants.{Foreign, Closed, Malformed, NotMine, Ours}
use Rattle.unit_core.specs.Views.{OutgoingView}
use Rattle.unit_core.specs.Sending.{number_for, after_send, pieces_for}
use Rattle.unit_core.specs.Hearing.{with_piece}
use Rattle.machine.specs.declared.line.OutLine.{OutLine}
use Rattle.machine.specs.declared.line.OutLine.TheVariants.{Sent, Refused, From}
use Rattle.desk.specs.Wires.{WireView, no_wire, with_message}

-- ---- parties and addresses

-- who has an address in a partition: 0 is its manager unit's
abbrev pub party_at : ℕ → ℕ → Party
party_at partition a = if a == 0 then Manager (record { 0 = partition }) else Host a

-- the address of a party for the units of a partition; 255, which nobody has, for the manager unit
-- of another
abbrev pub address_in : ℕ → Party → ℕ
address_in partition (Host a) = a
address_in partition (Manager p) = if p.0 == partition then 0 else 255

-- a message to a party, handed down to a unit of this partition
abbrev pub outgoing : ℕ → Party → List ℕ → OutgoingView
outgoing partition to message =
    record { to = address_in partition to; message = message }

-- ---- deeds

-- what a unit and its desk are at
pub record DeskState : Type 0 where
  pub address : ℕ
  pub partition : ℕ
  -- the frame of a piece under the keys of the partition
  pub frame : PieceView → List ℕ
  -- the next number of the stream to each address
  pub streams : List (Option ℕ)
  -- the pieces that came from each address, the newest first
  pub heard : ℕ → List PieceView
  -- what its party was told
  pub lines : List OutLine
  -- what it sealed
  pub wire : WireView
  -- how many frames were its own, and how many messages it gave
  pub ours : ℕ
  pub given : ℕ

-- before the first deed
abbrev pub fresh : Sealer → KeyPair → ℕ → ℕ → List (Option ℕ) → DeskState
fresh sealed keys address partition streams = record {
  address = address;
  partition = partition;
  frame = frame_of sealed keys;
  streams = streams;
  heard = λ a. [];
  lines = [];
  wire = no_wire;
  ours = 0;
  given = 0;
}

-- one thing that a unit does
pub data Deed : Type 0 where
  -- its party sends a message
  says : Party → List ℕ → Deed
  -- a frame comes, which holds this
  hears : List ℕ → Inbound → Deed

-- the line for the answer to a send
abbrev pub line_said : Party → Result ℕ SendRefused → OutLine
line_said to (Ok number) = Sent to number
line_said to (Err why) = Refused to why

-- the frames of the pieces of a message with this number join what was sealed
abbrev pub wire_said : DeskState → OutgoingView → Result ℕ SendRefused → WireView
wire_said st send (Ok number) =
    with_message st.wire send.to
    (map st.frame (pieces_for st.address st.partition send (Ok number)))
wire_said st send (Err why) = st.wire

-- the line for the message that a piece completes after these
abbrev pub lines_of_piece : ℕ → List PieceView → PieceView → List OutLine
lines_of_piece partition h x =
    if completes h x then From (party_at partition x.from) (body (x ∷ h) x.message) ∷ [] else []

-- a piece came that is its own, and these lines are told
abbrev pub heard_piece : DeskState → PieceView → List OutLine → DeskState
heard_piece st x lines = record st {
  heard = with_piece st.heard x;
  lines = st.lines ++ lines;
  ours = st.ours + 1;
  given = st.given + length lines;
}

-- a frame came, which holds this: what isn't its own changes nothing
abbrev pub heard : DeskState → Inbound → DeskState
heard st (Ours x) = heard_piece st x (lines_of_piece st.partition (st.heard x.from) x)
heard st Foreign = st
heard st Closed = st
heard st Malformed = st
heard st NotMine = st

-- its party sent a message, which the unit is handed like this
abbrev pub said : DeskState → Party → OutgoingView → DeskState
said st to send = record st {
  streams = after_send st.streams send;
  lines = st.lines ++ line_said to (number_for st.streams send) ∷ [];
  wire = wire_said st send (number_for st.streams send);
}

-- a deed is done
abbrev pub did : DeskState → Deed → DeskState
did st (says to message) = said st to (outgoing st.partition to message)
did st (hears frame inbound) = heard st inbound

-- deeds are done, one after another
abbrev pub does : DeskState → List Deed → DeskState
does st [] = st
does st (deed ∷ deeds) = does (did st deed) deeds

-- frames come, which hold these
abbrev pub hearings : List (List ℕ) → List Inbound → List Deed
hearings (frame ∷ frames) (inbound ∷ inbounds) = hears frame inbound ∷ hearings frames inbounds
hearings [] inbounds = []
hearings frames [] = []
