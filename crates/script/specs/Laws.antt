-- What holds of texts and scripts.
use Rattle.std.specs.Prelude.{◌≡◌, ◌⊎◌, ℕ, ◌-◌, ◌<◌, ◌≤◌, ◌==◌, List, length, slice_get, Some}
use Rattle.std.specs.List.{AllByRecursion, slice_split}
use Rattle.untrusted_store.specs.declared.plan.StoreAction.{StoreAction}
use Rattle.untrusted_store.specs.declared.plan.StoreAction.TheVariants.{Honest, Of, Flip, Gone}
use Rattle.events.specs.declared.event.Event.{Event}
use Rattle.events.specs.ScriptView.{ScriptView}
use Rattle.events.specs.Scripts.{IsScript, line_of}
use Rattle.script.specs.declared.read.TheConstants.{TEXT_LIMIT}
use Rattle.script.specs.declared.refusal.Refusal.{Refusal}
use Rattle.script.specs.Spelling.{line_text}
use Rattle.script.specs.Ranges.{InRange}
use Rattle.script.specs.Reasons.{FirstRefusal, IsScriptOf, IsClean}
use Rattle.script.specs.Text.{line_of_event, text_of}

-- a text is clean or has a first refusal, never both, and never two; and it says one script
pub record HasOneOutcome (bytes : List ℕ) : Type 0 where
  pub some : IsClean bytes ⊎ ((refusal : Refusal) × FirstRefusal bytes refusal)
  pub apart : (refusal : Refusal) → FirstRefusal bytes refusal → IsClean bytes → ⊥
  pub one : (a b : Refusal) → FirstRefusal bytes a → FirstRefusal bytes b → a ≡ b
  pub script : (a b : ScriptView) → IsScriptOf bytes a → IsScriptOf bytes b → a ≡ b

abbrev pub EachTextHasOneOutcome : Type 0
EachTextHasOneOutcome = (bytes : List ℕ) → HasOneOutcome bytes

-- A clean text is the text of the script that it says.
abbrev pub CleanTextsAreTheirOwn : Type 0
CleanTextsAreTheirOwn =
    (bytes : List ℕ) (script : ScriptView) → IsScriptOf bytes script → text_of script ≡ bytes

-- a line can say the action: a version is counted from 1 and has seven bytes at most, and a byte is
-- changed
abbrev pub IsSaid : StoreAction → Type 0
IsSaid (Of level version) = InRange 1 72057594037927935 version
IsSaid (Flip offset xor) = 0 < xor
IsSaid Honest = Unit {0}
IsSaid Gone = Unit {0}

-- lines can say all of a script
abbrev pub IsSpelled : ScriptView → Type 0
IsSpelled script = AllByRecursion (λ row. IsSaid row.action) script.rows

-- The text of a script that can be held, and whose plan lines can say, says that script where it is
-- not too long.
abbrev pub ScriptsReadAgain : Type 0
ScriptsReadAgain =
    (script : ScriptView) → IsScript script → IsSpelled script
    → length (text_of script) ≤ TEXT_LIMIT → IsScriptOf (text_of script) script

-- the texts between newlines
abbrev pub texts_of : List ℕ → List (List ℕ)
texts_of bytes = slice_split (λ c. c == 10) bytes

-- The line of an event has the event's text.
abbrev pub EventsStandAtTheirLines : Type 0
EventsStandAtTheirLines =
    (script : ScriptView) → IsScript script
    → (place : ℕ) (event : Event) → slice_get script.events place ≡ Some event
    → slice_get (texts_of (text_of script)) (line_of script place - 1)
    ≡ Some (line_text (line_of_event script.roster event))
