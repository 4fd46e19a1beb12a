-- The frames of all units, merged in the order of events.
use Rattle.std.specs.Prelude.{◌≡◌, ℕ, ◌+◌, ◌*◌, ◌≤◌, List, [], ◌∷◌, ◌++◌, length, map, filter, true, Bool, ◌&&◌, Option, Some, None}
use Rattle.std.specs.List.{range_with_len, AllByRecursion}
use Rattle.std.proofs.Math.ListN.{get_or}
use Rattle.levels.specs.declared.level.Party.{Party}
use Rattle.levels.specs.Rosters.{is_same_party}
use Rattle.events.specs.declared.event.Stream.{Stream}
use Rattle.events.specs.declared.event.Event.{Event}
use Rattle.events.specs.Scripts.{is_known}
use Rattle.machine.specs.declared.line.FrameRow.{FrameRow}
use Rattle.machine.specs.Setup.{Setup}
use Rattle.machine.specs.Machine.{state}
use Rattle.machine.specs.Wire.{wire}
use Rattle.desk.specs.Wires.{WireView}
use Rattle.engine.specs.declared.merging.SentRow.{SentRow}
use Rattle.engine.specs.Slots.{slot_of, HasSlot}
use Rattle.engine.specs.States.{frames_by}

-- ---- where frames stand

-- a piece of a message of a stream
pub record Key : Type 0 where
  pub stream : Stream
  pub message : ℕ
  pub piece : ℕ

abbrev pub key : Stream → ℕ → ℕ → Key
key stream message piece = record { stream = stream; message = message; piece = piece }

abbrev pub key_of : FrameRow → Key
key_of row = key row.stream row.message row.piece

abbrev pub is_same_stream : Stream → Stream → Bool
is_same_stream a b = is_same_party a.from b.from && is_same_party a.to b.to

-- how many messages of a stream are among these
abbrev pub count_of : Stream → List SentRow → ℕ
count_of stream rows = length (filter (λ row. is_same_stream row.stream stream) rows)

abbrev pub message_keys : Stream → ℕ → ℕ → List Key
message_keys stream message pieces = map (key stream message) (range_with_len 0 pieces)

-- the pieces of some messages, in order, after those of earlier messages
abbrev pub keys_after : List SentRow → List SentRow → List Key
keys_after before [] = []
keys_after before (row ∷ rows) =
    message_keys row.stream (count_of row.stream before) row.pieces
    ++ keys_after (before ++ row ∷ []) rows

-- the pieces of the messages that were sent: a message has the number of those before it in its
-- stream
abbrev pub keys_of : List SentRow → List Key
keys_of rows = keys_after [] rows

-- ---- what each unit sealed

abbrev pub frames_in : Option WireView → List (List ℕ)
frames_in None = []
frames_in (Some wire) = wire.frames

-- the frames that the unit of a slot sealed
abbrev pub sealed_at : List (Option WireView) → ℕ → List (List ℕ)
sealed_at wires slot = frames_in (get_or wires slot None)

-- These rows are the frames of what was sent, in order, and each sender's unit sealed its own.
pub record AreFramesOf
    (sent : List SentRow) (wires : List (Option WireView)) (rows : List FrameRow) : Type 0 where
  pub keys : map key_of rows ≡ keys_of sent
  pub sealed : AllByRecursion
      (λ row. sealed_at wires (slot_of row.stream.from) ≡ frames_by row.stream.from rows) sent

-- ---- a merge on its way

-- where the messages of a stream are counted
abbrev pub counter_of : Stream → ℕ
counter_of stream = 512 * slot_of stream.from + slot_of stream.to

-- the rows of a message's frames, from a piece on
abbrev pub rows_of : Stream → ℕ → ℕ → List (List ℕ) → List FrameRow
rows_of stream message piece [] = []
rows_of stream message piece (bytes ∷ frames) =
    record { stream = stream; message = message; piece = piece; bytes = bytes }
    ∷ rows_of stream message (piece + 1) frames

pub record BeginsWith (all part : List (List ℕ)) : Type 0 where
  pub rest : List (List ℕ)
  pub is : all ≡ part ++ rest

-- The frames of the messages so far are merged: of each unit so many are taken, and of each stream
-- so many messages came.
pub record IsMerged (wires : List (Option WireView)) (before : List SentRow)
    (taken counts : List ℕ) (frames : List FrameRow) : Type 0 where
  pub slots : length taken ≡ 512
  pub streams : length counts ≡ 262144
  pub keys : map key_of frames ≡ keys_of before
  pub senders : AllByRecursion (λ row. HasSlot row.stream.from) before
  pub cursors : (u : Party) → HasSlot u
      → get_or taken (slot_of u) 0 ≡ length (frames_by u frames)
  pub begins : (u : Party) → HasSlot u
      → BeginsWith (sealed_at wires (slot_of u)) (frames_by u frames)
  pub numbers : (stream : Stream) → HasSlot stream.from → HasSlot stream.to
      → get_or counts (counter_of stream) 0 ≡ count_of stream before

-- ---- what the machine sends

-- The rows are the messages that the events of a past made parties send.
pub record SentIs (m : Setup) (past : List Event) (rows : List SentRow) : Type 0 where
  pub keys : map key_of (wire m past) ≡ keys_of rows
  pub counts : (s r : Party) → count_of (record { from = s; to = r }) rows
      ≡ length ((state m past).sent s r)
  pub known : AllByRecursion (λ row. is_known m.roster row.stream.from ≡ true) rows
  pub few : length rows ≤ length past
