-- What is owed for one input.
use Rattle.std.specs.Prelude.{◌≡◌, ◌⊎◌, ℕ, List, Option, Some, None}
use Rattle.events.specs.ScriptView.{ScriptView}
use Rattle.script.specs.Reasons.{IsScriptOf}
use Rattle.script.specs.declared.refusal.Refusal.{Refusal}
use Rattle.script.specs.declared.refusal.ScriptRefused.{ScriptRefused}
use Rattle.script.specs.declared.refusal.ScriptRefused.TheVariants as why
use Rattle.engine.specs.ReportView.{ReportView}
use Rattle.replay.specs.declared.command.Command.{Command}
use Rattle.replay.specs.declared.status.Status.{Status}
use Rattle.replay.specs.declared.status.Status.TheVariants.{Refused}
use Rattle.replay.specs.Lines.{refused_line}
use Rattle.replay.specs.Due.{Due, IsAnswer}
use Rattle.replay.specs.Kept.{KeepsReport}

-- just this is due
abbrev pub IsOwed : Status → List ℕ → Status → List ℕ → Type 0
IsOwed status text status' written = (status' ≡ status) × (written ≡ text)

-- this is due for a text, and this report is kept
pub record IsOwedFor (bytes : List ℕ) (command : Command)
    (status : Status) (text : List ℕ) (report : Option ReportView) : Type 0 where
  pub due : Due bytes (Some command) status text
  pub kept : KeepsReport (Some command) status (Some bytes) report

-- it is for every text that says the script
abbrev pub IsOwedOf :
    ScriptView → Command → Status → List ℕ → Option ReportView → Type 0
IsOwedOf script command status text report =
    (bytes : List ℕ) → IsScriptOf bytes script → IsOwedFor bytes command status text report

-- it is whatever the input
abbrev pub IsOwedAlways : Command → Status → List ℕ → Option ReportView → Type 0
IsOwedAlways command status text report =
    (bytes : List ℕ) → IsOwedFor bytes command status text report

-- what is due where a reading stopped: its refusal
pub record IsStop
    (stop : ScriptRefused) (ended : Status) (written : List ℕ) (kept : Option ReportView) :
    Type 0 where
  pub refusal : Refusal
  pub why : stop ≡ why.Refused refusal
  pub status : ended ≡ Refused refusal
  pub text : written ≡ refused_line refusal
  pub report : kept ≡ None

-- the report goes with the status that is owed, and with no fault
abbrev pub GoesAlong : Status → Option ReportView → Status → Option ReportView → Type 0
GoesAlong status report status' report' =
    ((status' ≡ status) × (report' ≡ report)) ⊎ ((IsAnswer status' → ⊥) × (report' ≡ None))
