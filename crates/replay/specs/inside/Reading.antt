-- How two scripts are read from one input.
use Rattle.std.specs.Prelude.{◌≡◌, ℕ, ◌≤◌, ◌+◌, List, Option, None, Result, Ok, Err}
use Rattle.script.specs.declared.read.TheConstants.{TEXT_LIMIT}
use Rattle.script.specs.declared.refusal.ScriptRefused.{ScriptRefused}
use Rattle.script.specs.declared.refusal.ScriptRefused.TheVariants.{Refused, OutOfMemory}
use Rattle.engine.specs.ReportView.{ReportView}
use Rattle.replay.specs.declared.command.Command.TheVariants.{Twin}
use Rattle.replay.specs.declared.status.Status.{Status}
use Rattle.replay.specs.declared.status.Status.TheVariants as status
use Rattle.replay.specs.declared.twins.Twins.{Twins}
use Rattle.replay.specs.Lines.{refused_line}
use Rattle.replay.specs.Twins.{below, DueForScripts}
use Rattle.replay.specs.inside.Owing.{IsOwedFor}

-- what is due for the two scripts of an input, and none is kept
pub record IsOwedForScripts
    (name : List ℕ) (twins : Twins) (status : Status) (text : List ℕ)
    (report : Option ReportView) : Type 0 where
  pub due : DueForScripts name twins.above twins.first twins.second status text
  pub none : report ≡ None

-- what a reading of two scripts answers: what is due for them is due for the input, and so is the
-- refusal of one of them
abbrev pub ReadsTwins : List ℕ → Result Twins ScriptRefused → Type 0
ReadsTwins bytes (Ok twins) =
    (name : List ℕ) (status : Status) (text : List ℕ) (report : Option ReportView)
    → IsOwedForScripts name twins status text report
    → IsOwedFor bytes (Twin name) status text report
ReadsTwins bytes (Err (Refused refusal)) =
    (name : List ℕ)
    → IsOwedFor bytes (Twin name) (status.Refused refusal) (refused_line refusal) None
ReadsTwins bytes (Err OutOfMemory) = Unit {0}

-- why a text gave no script that stands below some lines
abbrev pub stop_below : ℕ → ScriptRefused → ScriptRefused
stop_below above (Refused refusal) = Refused (below above refusal)
stop_below above OutOfMemory = OutOfMemory

-- a refused line is one of a text that isn't too long, or stands just behind it
abbrev pub HasLine : ScriptRefused → Type 0
HasLine (Refused refusal) = refusal.line ≤ TEXT_LIMIT + 1
HasLine OutOfMemory = Unit {0}
