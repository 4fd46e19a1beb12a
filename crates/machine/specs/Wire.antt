-- The frames of a script, in order of event and piece.
use Rattle.std.specs.Prelude.{ℕ, List, [], ◌∷◌, ◌++◌, length, map, reverse}
use Rattle.std.specs.List.{flat_map, range_with_len}
use Rattle.levels.specs.declared.level.Party.{Party}
use Rattle.frame.specs.Pieces.{pieces}
use Rattle.machine.specs.declared.line.FrameRow.{FrameRow}
use Rattle.events.specs.declared.event.Event.{Event}
use Rattle.events.specs.ScriptView.{ScriptView}
use Rattle.machine.specs.Setup.{Setup, setup_of}
use Rattle.machine.specs.Low.{place_of}
use Rattle.machine.specs.Machine.{State, parties, piece_frame, sent_by, state}

abbrev pub frame_row : Setup → Party → Party → ℕ → List ℕ → ℕ → FrameRow
frame_row m s r j body i =
    record {
      stream = record { from = s; to = r };
      message = j;
      piece = i;
      bytes = piece_frame m s r j body i;
    }

-- the frames of message j from s to r, one for each piece
abbrev pub frames_of : Setup → Party → Party → ℕ → List ℕ → List FrameRow
frames_of m s r j body = map (frame_row m s r j body) (range_with_len 0 (pieces body))

-- the frames of what e makes s send: the message's number is that of the messages sent before
abbrev pub frames_from : Setup → State → Event → Party → List FrameRow
frames_from m x e s =
    flat_map (λ r. flat_map (frames_of m s r (length (x.sent s r))) (sent_by m x e s r))
    (parties m.roster)

-- the frames of the events of a past: an event makes none but the party at which it happens send
abbrev pub wire : Setup → List Event → List FrameRow
wire m [] = []
wire m (e ∷ past) = wire m past ++ frames_from m (state m past) e (place_of e)

abbrev pub frames : ScriptView → List FrameRow
frames script = wire (setup_of script) (reverse script.events)
