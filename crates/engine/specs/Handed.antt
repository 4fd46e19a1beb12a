-- The frames that an event hands to a unit.
use Rattle.std.specs.Prelude.{ℕ, List, [], ◌∷◌, map, Option, Some, None, slice_get, option_to_list}
use Rattle.std.specs.List.{range_with_len}
use Rattle.levels.specs.declared.level.Party.{Party}
use Rattle.frame.specs.Pieces.{pieces}
use Rattle.events.specs.declared.event.Stream.{Stream}
use Rattle.events.specs.declared.event.Event.{Event}
use Rattle.events.specs.declared.event.Event.TheVariants.{Send, Ask, Arrive, Carry, Forge, Tamper}
use Rattle.machine.specs.Setup.{Setup}
use Rattle.machine.specs.Machine.{State, piece_frame}
use Rattle.machine.specs.FalseBytes.{edited}

-- the frames of message j from s to r, if it was sent
abbrev pub frames_if : Setup → Party → Party → ℕ → Option (List ℕ) → List (List ℕ)
frames_if m s r j None = []
frames_if m s r j (Some body) = map (piece_frame m s r j body) (range_with_len 0 (pieces body))

-- the frames of message j of a stream: none where it wasn't sent
abbrev pub message_sent : Setup → State → Stream → ℕ → List (List ℕ)
message_sent m x stream j =
    frames_if m stream.from stream.to j (slice_get (x.sent stream.from stream.to) j)

-- the frame of its piece i: none where it wasn't sent or has no such piece
abbrev pub piece_sent : Setup → State → Stream → ℕ → ℕ → List (List ℕ)
piece_sent m x stream j i = option_to_list (slice_get (message_sent m x stream j) i)

-- the frames that e hands to the unit where it happens: those of what was sent before, a changed
-- one, or forged bytes
abbrev pub handed_frames : Setup → State → Event → List (List ℕ)
handed_frames m x (Arrive stream message piece at) = piece_sent m x stream message piece
handed_frames m x (Carry stream message at) = message_sent m x stream message
handed_frames m x (Forge at bytes) = bytes ∷ []
handed_frames m x (Tamper stream message piece at edits) =
    map (edited edits) (piece_sent m x stream message piece)
handed_frames m x (Send from to message) = []
handed_frames m x (Ask from call) = []
