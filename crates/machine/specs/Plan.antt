-- The reply where the store answers by a plan, and what the store answers.
use Rattle.std.specs.Prelude.{ℕ, ◌+◌, List, [], ◌∷◌, Bool, true, false, ◌==◌, ◌&&◌, Option, None, Some, is_some, if◌then◌else◌}
use Rattle.std.specs.Option.{option_map}
use Rattle.levels.specs.Rosters.{RosterView}
use Rattle.file_calls.specs.declared.call.Reply.{Reply}
use Rattle.file_calls.specs.Spelling.{call_of}
use Rattle.untrusted_store.specs.declared.slot.Slot.{Slot}
use Rattle.untrusted_store.specs.declared.plan.StoreAction.{StoreAction}
use Rattle.untrusted_store.specs.declared.plan.StoreAction.TheVariants.{Honest, Of, Flip, Gone}
use Rattle.untrusted_store.specs.Planned.{action_at, answer_by}
use Rattle.guarantor.specs.Records.{record_of}
use Rattle.machine.specs.Files.{CallRow, written, files}
use Rattle.machine.specs.Replies.{Question, sight, question_by, reply_with}
use Rattle.machine.specs.Setup.{Setup}

-- the question that a call is after the calls before it, if it is one
abbrev pub question_of : RosterView → List CallRow → CallRow → Option Question
question_of roster before c = question_by (sight roster c.level before) (call_of c.message)

-- how many calls of a level were questions
abbrev pub question_count : RosterView → ℕ → List CallRow → ℕ
question_count roster p [] = 0
question_count roster p (c ∷ before) =
    if c.level == p && is_some (question_of roster before c)
    then question_count roster p before + 1 else question_count roster p before

-- by what the next question of a level is answered: by `true` past the end of its plan
unfoldable pub next_action : Setup → List CallRow → ℕ → StoreAction
next_action m before p = action_at m.rows p (question_count m.roster p before)

-- an answer is intact where it is, by its action, the record of the current version
abbrev pub is_intact : StoreAction → Question → Bool
is_intact Honest question = true
is_intact (Of level version) question =
    level == question.level && version == question.version
is_intact (Flip offset xor) question = false
is_intact Gone question = false

-- what was written as the current version of a block
abbrev pub current_content : List CallRow → Question → Option (List ℕ)
current_content before question =
    option_map (λ w. w.content) (written (files question.level before).writes question.version)

-- what the answer to a question opens to, where it is intact
abbrev pub intact_content : StoreAction → List CallRow → Option Question → Option (List ℕ)
intact_content action before None = None
intact_content action before (Some question) =
    if is_intact action question then current_content before question else None

-- the reply to a call after the calls before it
unfoldable pub reply : Setup → List CallRow → CallRow → Reply
reply m before c = reply_with (sight m.roster c.level before)
    (intact_content (next_action m before c.level) before (question_of m.roster before c))
    (call_of c.message)

-- the records that were put: in the slot of each version the record of what was written under it
abbrev pub records : Setup → List CallRow → Slot → Option (List ℕ)
records m before slot =
    option_map
    (λ w. record_of m.sealed m.guard slot.level w.name w.block slot.version w.content)
    (written (files slot.level before).writes slot.version)

-- what the store answers to the next question of a level, which is this one
abbrev pub store_answer : Setup → List CallRow → ℕ → Question → Option (List ℕ)
store_answer m before p question =
    answer_by (records m before)
    (record { level = question.level; version = question.version }) (next_action m before p)
