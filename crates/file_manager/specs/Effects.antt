-- What a call does to a store, where the store tells.
use Rattle.std.specs.Prelude.{◌≡◌, ◌⊎◌, ℕ, List, length, Option, None, Some, Result, Ok, Err}
use Rattle.std.specs.Option.{option_map}
use Rattle.seal_core.specs.declared.KeyPair.{KeyPair}
use Rattle.seal_core.specs.Sealing.{Sealer}
use Rattle.guarantor.specs.Records.{record_of}
use Rattle.file_calls.specs.declared.call.Call.{Call}
use Rattle.untrusted_store.specs.declared.slot.Slot.{Slot}
use Rattle.untrusted_store.specs.Telling.{with_put, with_question}
use Rattle.machine.specs.Files.{Writing, writing}
use Rattle.machine.specs.Replies.{Sight, Question}

-- what a message writes, where it is a call that is accepted
abbrev pub writing_by : Sight → Option Call → Option Writing
writing_by s None = None
writing_by s (Some call) = writing s.next s.own call

-- the bytes put last in each slot: a write puts its record in the slot of its level and version
abbrev pub last_after : Sealer → KeyPair → ℕ → Option Writing
    → Option (Slot → Option (List ℕ)) → Option (Slot → Option (List ℕ))
last_after sealed keys level None last = last
last_after sealed keys level (Some w) last =
    option_map (with_put (record { level = level; version = w.version })
    (record_of sealed keys level w.name (length w.front) w.version w.content)) last

-- the number of questions of each reader: a question adds one to that of its reader
abbrev pub asked_after : ℕ → Option Question → Option (ℕ → ℕ) → Option (ℕ → ℕ)
asked_after reader None asked = asked
asked_after reader (Some question) asked = option_map (with_question reader) asked

-- a call went through and made its change, or it stopped before it or behind it
abbrev pub MakesChange : {A E X : Type 0} → Result A E → X → X → X → Type 0
MakesChange (Ok answer) before after now = now ≡ after
MakesChange (Err stop) before after now = (now ≡ before) ⊎ (now ≡ after)
