-- What is kept of a call.
use Rattle.std.specs.Prelude.{◌≡◌, ℕ, List, Option, Some, None, IfSome, IsSomeAnd}
use Rattle.events.specs.ScriptView.{ScriptView}
use Rattle.script.specs.Reasons.{IsScriptOf}
use Rattle.engine.specs.ReportView.{ReportView}
use Rattle.engine.specs.Reports.{IsReport}
use Rattle.drill.specs.Drills.{drill}
use Rattle.replay.specs.declared.command.Command.{Command}
use Rattle.replay.specs.declared.command.Command.TheVariants.{Run, Drill}
use Rattle.replay.specs.declared.status.Status.{Status}
use Rattle.replay.specs.declared.status.Status.TheVariants.{Fine}

-- a report of a script: where the bytes of the input are told, of the script that they say
pub record IsReportOn (left : Option (List ℕ)) (report : ReportView) : Type 0 where
  pub script : ScriptView
  pub said : IfSome left (λ bytes. IsScriptOf bytes script)
  pub reports : IsReport script report

-- Where one script was run to its end and shown, its report; else none.
abbrev pub KeepsReport :
    Option Command → Status → Option (List ℕ) → Option ReportView → Type 0
KeepsReport (Some (Run shown)) Fine left kept = IsSomeAnd kept (IsReportOn left)
KeepsReport (Some (Drill seed count)) Fine left kept =
    IsSomeAnd kept (IsReport (drill seed count))
KeepsReport command status left kept = kept ≡ None
