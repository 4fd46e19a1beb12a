-- What a turn filled, in the order of its batch.
use Rattle.std.specs.Prelude.{◌≡◌, ℕ, ◌+◌, ◌≤◌, List, [], ◌∷◌, ◌++◌, length, map, replicate, take, drop, ◌==◌, if◌then◌else◌}
use Rattle.levels.specs.declared.level.Party.{Party}
use Rattle.frame.specs.Pieces.{piece_count}
use Rattle.machine.specs.declared.line.OutLine.{OutLine}
use Rattle.machine.specs.declared.line.OutLine.TheVariants as line
use Rattle.unit_core.specs.Views.{OutgoingView}
use Rattle.unit_core.specs.declared.rows.SendAnswer.{SendAnswer}
use Rattle.unit_core.specs.declared.rows.SendAnswer.TheVariants.{Sent, Refused}
use Rattle.unit_core.specs.declared.rows.GivenRow.{GivenRow}
use Rattle.desk.specs.Wires.{WireView, with_message}
use Rattle.desk.specs.Deeds.{party_at, address_in}
use Rattle.desk.specs.Views.{BatchView}
use Rattle.desk.specs.declared.batch.Waiting.{Waiting}
use Rattle.desk.specs.declared.batch.Waiting.TheVariants.{Send, Frame}

-- how many bytes a message has
abbrev pub size_of : OutgoingView → ℕ
size_of send = length send.message

-- the sizes of the messages that wait
abbrev pub sizes_in : List Waiting → List ℕ
sizes_in [] = []
sizes_in (Send to size ∷ order) = size ∷ sizes_in order
sizes_in (Frame ∷ order) = sizes_in order

-- a batch fits into a turn, and its order has each send and misses no frame
pub record IsBatch (b : BatchView) : Type 0 where
  pub sends : length b.sends ≤ 4
  pub frames : length b.frames ≤ 256
  pub sizes : sizes_in b.order ≡ map size_of b.sends
  pub all : length b.sends + length b.frames ≤ length b.order

-- a message to this party joins, which is sent to an address
abbrev pub batch_send : BatchView → ℕ → Party → List ℕ → BatchView
batch_send b a to message = record {
  order = b.order ++ Send to (length message) ∷ [];
  sends = b.sends ++ record { to = a; message = message } ∷ [];
  frames = b.frames;
}

-- frames join
abbrev pub batch_frames : BatchView → List (List ℕ) → BatchView
batch_frames b frames = record {
  order = b.order ++ replicate (length frames) Frame;
  sends = b.sends;
  frames = b.frames ++ frames;
}

-- ---- lines

-- the line for an answer
abbrev pub line_answered : Party → SendAnswer → OutLine
line_answered to (Sent number) = line.Sent to number
line_answered to (Refused why) = line.Refused to why

-- the line for a message that was given, its bytes standing among these
abbrev pub line_given : ℕ → List ℕ → GivenRow → OutLine
line_given partition bodies row =
    line.From (party_at partition row.from) (take row.length (drop row.start bodies))

-- the lines for answers and given messages; n is the index of the next frame
abbrev pub merged : ℕ → List ℕ → List Waiting → List SendAnswer → ℕ → List GivenRow → List OutLine
merged partition bodies [] answers n given = []
merged partition bodies (Send to size ∷ order) [] n given = []
merged partition bodies (Send to size ∷ order) (answer ∷ answers) n given =
    line_answered to answer ∷ merged partition bodies order answers n given
merged partition bodies (Frame ∷ order) answers n [] =
    merged partition bodies order answers (n + 1) []
merged partition bodies (Frame ∷ order) answers n (row ∷ given) =
    if row.frame == n
    then line_given partition bodies row ∷ merged partition bodies order answers (n + 1) given
    else merged partition bodies order answers (n + 1) (row ∷ given)

-- ---- frames

-- the accepted sends have short messages, and frames for all their pieces
abbrev pub Covers : List Waiting → List SendAnswer → List (List ℕ) → Type 0
Covers [] answers frames = Unit {0}
Covers (Frame ∷ order) answers frames = Covers order answers frames
Covers (Send to size ∷ order) [] frames = ⊥
Covers (Send to size ∷ order) (Sent number ∷ answers) frames =
    (size ≤ 5632) × (piece_count size ≤ length frames)
    × Covers order answers (drop (piece_count size) frames)
Covers (Send to size ∷ order) (Refused why ∷ answers) frames = Covers order answers frames

-- the frames of the accepted sends join what was sealed
abbrev pub wire_merged : ℕ → WireView → List Waiting → List SendAnswer → List (List ℕ) → WireView
wire_merged partition wire [] answers frames = wire
wire_merged partition wire (Frame ∷ order) answers frames =
    wire_merged partition wire order answers frames
wire_merged partition wire (Send to size ∷ order) [] frames = wire
wire_merged partition wire (Send to size ∷ order) (Sent number ∷ answers) frames =
    wire_merged partition
    (with_message wire (address_in partition to) (take (piece_count size) frames))
    order answers (drop (piece_count size) frames)
wire_merged partition wire (Send to size ∷ order) (Refused why ∷ answers) frames =
    wire_merged partition wire order answers frames
