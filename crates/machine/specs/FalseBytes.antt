-- False frames and false records: bytes that open, but weren't sealed for what they open as.
use Rattle.std.specs.Prelude.{◌≡◌, ℕ, ◌<◌, List, [], ◌∷◌, drop, true, false, Some, slice_get, slice_set, slice_index, bit_xor}
use Rattle.levels.specs.declared.level.Party.{Party}
use Rattle.levels.specs.Rosters.{partition_of, is_same_partition}
use Rattle.frame.specs.Pieces.{pieces}
use Rattle.frame.specs.Frames.{HasHeader, Opens}
use Rattle.file_calls.specs.Names.{is_content}
use Rattle.guarantor.specs.Records.{record_of}
use Rattle.events.specs.declared.event.Event.{Event}
use Rattle.events.specs.declared.event.Event.TheVariants.{Send, Ask, Arrive, Carry, Forge, Tamper}
use Rattle.events.specs.ScriptView.{ScriptView}
use Rattle.machine.specs.Setup.{Setup, setup_of}
use Rattle.machine.specs.Files.{CallRow}
use Rattle.machine.specs.Replies.{Question}
use Rattle.machine.specs.Plan.{question_of, next_action, is_intact, store_answer}
use Rattle.machine.specs.Machine.{State, number_of, piece_frame, calls_by, state_at}

-- bytes open in partition p: they have its header, and the rest opens under its keys
pub record OpensIn (m : Setup) (p : ℕ) (bytes : List ℕ) : Type 0 where
  pub header : HasHeader p bytes
  pub opens : Opens m.sealed (m.keys p) (drop 8 bytes)

-- bytes open at a unit where they open in its partition
abbrev pub OpensAt : Setup → Party → List ℕ → Type 0
OpensAt m u bytes = OpensIn m (number_of (partition_of m.roster u)) bytes

-- bytes are the frame of piece i of message j from s to r, which was sent
pub record IsSentFrame (m : Setup) (x : State) (s r : Party) (j i : ℕ) (bytes : List ℕ) :
    Type 0 where
  pub body : List ℕ
  pub sent : slice_get (x.sent s r) j ≡ Some body
  pub piece : i < pieces body
  pub same : bytes ≡ piece_frame m s r j body i

-- bytes changed by edits: each is a place and what is put to the byte there by exclusive or
abbrev pub edited : List (ℕ × ℕ) → List ℕ → List ℕ
edited [] bytes = bytes
edited (edit ∷ edits) bytes =
    edited edits (slice_set bytes edit.0 (bit_xor (slice_index bytes edit.0) edit.1))

-- a forged frame opens, and is no frame of a message that was sent in the partition
pub record IsFalseFrame (m : Setup) (x : State) (at : Party) (bytes : List ℕ) : Type 0 where
  pub opens : OpensAt m at bytes
  pub never_sent : (s r : Party) (j i : ℕ) → is_same_partition m.roster s at ≡ true
      → ¬ IsSentFrame m x s r j i bytes

-- a frame that was sent opens once it is changed
pub record IsFalseChange
    (m : Setup) (x : State) (at s r : Party) (j i : ℕ) (edits : List (ℕ × ℕ)) : Type 0 where
  pub bytes : List ℕ
  pub sent : IsSentFrame m x s r j i bytes
  pub opens : OpensAt m at (edited edits bytes)

-- e is a false frame that opens
abbrev pub IsFalse : Setup → State → Event → Type 0
IsFalse m x (Forge at bytes) = IsFalseFrame m x at bytes
IsFalse m x (Tamper stream message piece at edits) =
    IsFalseChange m x at stream.from stream.to message piece edits
IsFalse m x (Send from to message) = ⊥
IsFalse m x (Ask from call) = ⊥
IsFalse m x (Arrive stream message piece at) = ⊥
IsFalse m x (Carry stream message at) = ⊥

-- bytes are the record of the block that is asked for, with this content
pub record IsRecord (m : Setup) (question : Question) (bytes content : List ℕ) : Type 0 where
  pub short : is_content content ≡ true
  pub same : bytes ≡ record_of m.sealed m.guard
      question.level question.name question.block question.version content

-- the store's answer to a call isn't intact, and yet it is a record of the block that is asked for
pub record IsFalseRecord (m : Setup) (before : List CallRow) (c : CallRow) : Type 0 where
  pub question : Question
  pub asks : question_of m.roster before c ≡ Some question
  pub damaged : is_intact (next_action m before c.level) question ≡ false
  pub bytes : List ℕ
  pub content : List ℕ
  pub answer : store_answer m before c.level question ≡ Some bytes
  pub opens : IsRecord m question bytes content

-- e gives a call that is answered by a false record
pub record GivesFalse (m : Setup) (x : State) (e : Event) : Type 0 where
  pub place : ℕ
  pub call : CallRow
  pub gives : slice_get (calls_by m x e) place ≡ Some call
  pub answer : IsFalseRecord m x.calls call

-- e is a false frame that opens, or it gives a call that is answered by a false record
pub data OpensFalse (m : Setup) (x : State) (e : Event) : Type 0 where
  false_frame : IsFalse m x e → OpensFalse m x e
  false_record : GivesFalse m x e → OpensFalse m x e

-- at none of the first n events false bytes open
abbrev pub NoneFalse : ScriptView → ℕ → Type 0
NoneFalse script n = (k : ℕ) (e : Event) → k < n → slice_get script.events k ≡ Some e
    → ¬ OpensFalse (setup_of script) (state_at script k) e

-- event n is the first at which false bytes open
pub record IsFirstFalse (script : ScriptView) (n : ℕ) : Type 0 where
  pub event : Event
  pub there : slice_get script.events n ≡ Some event
  pub opens : OpensFalse (setup_of script) (state_at script n) event
  pub before : NoneFalse script n
