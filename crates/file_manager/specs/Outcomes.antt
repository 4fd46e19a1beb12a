-- What a call is answered, and what the store was asked for it.
use Rattle.std.specs.Prelude.{◌≡◌, ℕ, List, Option, None, Some, is_some}
use Rattle.seal_core.specs.declared.KeyPair.{KeyPair}
use Rattle.seal_core.specs.Sealing.{Sealer}
use Rattle.guarantor.specs.Checks.{IsRecord}
use Rattle.file_calls.specs.declared.call.Reply.{Reply}
use Rattle.untrusted_store.specs.declared.slot.Slot.{Slot}
use Rattle.machine.specs.Replies.{Question}
use Rattle.file_manager.specs.declared.outcome.Got.{Got}
use Rattle.file_manager.specs.declared.outcome.Outcome.{Outcome}

-- a question is for what was put in the slot of its level and its version
abbrev pub slot_of : Question → Slot
slot_of question = record { level = question.level; version = question.version }

-- a text is the record of the block that is asked for, with this content
abbrev pub IsRecordOf : Sealer → KeyPair → Question → List ℕ → List ℕ → Type 0
IsRecordOf sealed keys question text content =
    IsRecord sealed keys question.level question.name question.block question.version text content

-- what a store's answer opens to: the content of which it is the record, or none where it is no
-- record of the block that is asked for
abbrev pub OpensAsBlock : Sealer → KeyPair → Question → Option (List ℕ) → Option (List ℕ) → Type 0
OpensAsBlock sealed keys question None opened = opened ≡ None
OpensAsBlock sealed keys question (Some text) (Some content) =
    IsRecordOf sealed keys question text content
OpensAsBlock sealed keys question (Some text) None =
    (content : List ℕ) → ¬ IsRecordOf sealed keys question text content

-- what was opened for a call that is this question, or none: of the store's answer to the reader,
-- where the store tells that answer
abbrev pub WasOpened : Sealer → KeyPair → ℕ → Option (Slot → ℕ → Option (List ℕ))
    → Option Question → Option (List ℕ) → Type 0
WasOpened sealed keys reader next None opened = opened ≡ None
WasOpened sealed keys reader None (Some question) opened = Unit {0}
WasOpened sealed keys reader (Some next) (Some question) opened =
    OpensAsBlock sealed keys question (next (slot_of question) reader) opened

-- the slot that was asked for, and whether the answer opened
abbrev pub got_of : Option Question → Option (List ℕ) → Option Got
got_of None opened = None
got_of (Some question) opened =
    Some (record { slot = slot_of question; current = is_some opened })

-- the outcome of a call that is this question, or none: the reply by what was opened
pub record IsOutcome (sealed : Sealer) (keys : KeyPair) (reader : ℕ)
    (next : Option (Slot → ℕ → Option (List ℕ))) (question : Option Question)
    (reply : Option (List ℕ) → Reply) (outcome : Outcome) : Type 0 where
  pub opened : Option (List ℕ)
  pub opens : WasOpened sealed keys reader next question opened
  pub answer : outcome.reply ≡ reply opened
  pub got : outcome.got ≡ got_of question opened
