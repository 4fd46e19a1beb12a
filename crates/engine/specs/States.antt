-- A desk's state that is where the lattice machine is.
use Rattle.std.specs.Prelude.{◌≡◌, ℕ, ◌<◌, List, [], length, map, filter, true, false, Some, None, slice_get, if◌then◌else◌}
use Rattle.std.proofs.Math.ListN.{get_or}
use Rattle.levels.specs.declared.level.Party.{Party}
use Rattle.levels.specs.declared.level.Party.TheVariants.{Host, Manager}
use Rattle.levels.specs.Rosters.{is_same_party, is_partner}
use Rattle.frame.specs.Frames.{frame_of}
use Rattle.events.specs.declared.event.Event.{Event}
use Rattle.net_side.specs.NetView.{NetView}
use Rattle.net_side.specs.Nets as net_side
use Rattle.machine.specs.declared.line.OutLine.{OutLine}
use Rattle.machine.specs.declared.line.FrameRow.{FrameRow}
use Rattle.machine.specs.Setup.{Setup}
use Rattle.machine.specs.Machine.{State, address_of, arrivals_at, given_at}
use Rattle.machine.specs.Wire.{wire}
use Rattle.desk.specs.Wires.{WireView, messages_to, message_frames}
use Rattle.desk.specs.Deeds.{party_at, DeskState}
use Rattle.engine.specs.Genuine.{AreGenuine}
use Rattle.engine.specs.Handed.{frames_if}
use Rattle.engine.specs.Turns.{partition_number}

-- who has an address in the partition of u
abbrev pub peer : Setup → Party → ℕ → Party
peer m u a = party_at (partition_number m u) a

-- What u has sealed: all frames that it has sent, in order, and the frames of each message to each
-- partner.
pub record WireIs (m : Setup) (x : State) (sent : List (List ℕ)) (u : Party) (wire : WireView) :
    Type 0 where
  pub frames : wire.frames ≡ sent
  pub rows : length wire.messages ≡ 256
  pub count : (a : ℕ) → a < 256 → is_partner m.roster u (peer m u a) ≡ true
      → length (messages_to wire a) ≡ length (x.sent u (peer m u a))
  pub messages : (a j : ℕ) → a < 256 → is_partner m.roster u (peer m u a) ≡ true
      → message_frames wire a j
      ≡ frames_if m u (peer m u a) j (slice_get (x.sent u (peer m u a)) j)
  pub others : (a : ℕ) → a < 256 → is_partner m.roster u (peer m u a) ≡ false
      → messages_to wire a ≡ []

-- A state of the desk of u: names, next numbers, what came of each partner and what was sealed are
-- as the machine has them; it has these lines, and has sealed these frames.
pub record StateIs (m : Setup) (x : State) (lines : List OutLine) (sent : List (List ℕ))
    (u : Party) (st : DeskState) : Type 0 where
  pub address : st.address ≡ address_of u
  pub partition : st.partition ≡ partition_number m u
  pub frame : st.frame ≡ frame_of m.sealed (m.keys (partition_number m u))
  pub next : (a : ℕ) → a < 256 → get_or st.streams a None
      ≡ (if is_partner m.roster u (peer m u a)
      then Some (length (x.sent u (peer m u a))) else None)
  pub told : st.lines ≡ lines
  pub wires : WireIs m x sent u st.wire
  pub ours : st.ours ≡ length (arrivals_at m.roster x u)
  pub given : st.given ≡ length (given_at m.roster x u)
  pub genuine : (a : ℕ) → a < 256 → is_partner m.roster u (peer m u a) ≡ true
      → AreGenuine (x.sent (peer m u a) u) (st.heard a) (x.arrived (peer m u a) u)
      (x.given (peer m u a) u)

-- a manager unit's lines are not kept
abbrev pub kept_lines : Party → List OutLine → List OutLine
kept_lines (Host a) lines = lines
kept_lines (Manager p) lines = []

-- the frames that u has sent
abbrev pub frames_by : Party → List FrameRow → List (List ℕ)
frames_by u rows =
    map (λ row. row.bytes) (filter (λ row. is_same_party row.stream.from u) rows)

-- a state is where the machine is after a past
abbrev pub Stands : Setup → List Event → State → Party → DeskState → Type 0
Stands m past x u st =
    StateIs m x (kept_lines u (x.told u)) (frames_by u (wire m past)) u st

-- the network's side of the unit of u
pub record NetIs (m : Setup) (u : Party) (net : NetView) : Type 0 where
  pub address : net.address ≡ address_of u
  pub partition : net.partition ≡ partition_number m u
  pub keys : net.keys ≡ m.keys (partition_number m u)
  pub partners : (a : ℕ) → a < 256
      → net_side.is_partner net a ≡ is_partner m.roster u (peer m u a)
