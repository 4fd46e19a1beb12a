-- What a run reports.
use Rattle.std.specs.Prelude.{◌≡◌, ℕ, ◌<◌, List, [], length, map, sum, true, Result, Ok, Err}
use Rattle.std.proofs.Math.ListN.{get_or}
use Rattle.levels.specs.declared.level.Party.{Party}
use Rattle.levels.specs.declared.level.Party.TheVariants.{Host}
use Rattle.levels.specs.Rosters.{level_of}
use Rattle.events.specs.ScriptView.{ScriptView}
use Rattle.events.specs.Scripts.{is_known, line_of}
use Rattle.unit_core.specs.Views.{TallyView}
use Rattle.unit_core.specs.Tallies.{nothing_counted}
use Rattle.machine.specs.declared.line.OutLine.{OutLine}
use Rattle.machine.specs.FalseBytes.{NoneFalse, IsFirstFalse}
use Rattle.machine.specs.Text.{due_lines}
use Rattle.machine.specs.Wire.{frames}
use Rattle.engine.specs.declared.report.EngineStop.{EngineStop}
use Rattle.engine.specs.declared.report.EngineStop.TheVariants.{Opened, OutOfMemory}
use Rattle.engine.specs.ReportView.{ReportView}
use Rattle.engine.specs.Slots.{slot_of}
use Rattle.engine.specs.Turns.{tally}

-- what the host of an address was told; an address that is no host's has no lines
abbrev pub lines_of : ReportView → ℕ → List OutLine
lines_of report a = get_or report.lines a []

-- what the unit of a party counted
abbrev pub tally_of : ReportView → Party → TallyView
tally_of report u = get_or report.tallies (slot_of u) nothing_counted

-- how many turns all units made
abbrev pub turns_of : ReportView → ℕ
turns_of report = sum (map (λ tally. tally.turns) report.tallies)

-- A run of a script at none of whose events false bytes open: each host was told what the lattice
-- machine tells it on the events and plan rows at or below its level, all frames are there in order
-- of event and piece, and each unit has made its turns.
pub record IsReport (script : ScriptView) (report : ReportView) : Type 0 where
  pub own : report.script ≡ script
  pub clean : NoneFalse script (length script.events)
  pub lines : (a : ℕ) → a < 256
      → lines_of report a ≡ due_lines script a (level_of script.roster (Host a))
  pub frames : report.frames ≡ frames script
  pub tallies : (u : Party) → is_known script.roster u ≡ true
      → tally_of report u ≡ tally script u

-- event n is the first at which false bytes open, and it stands at this line
pub record StopsAt (script : ScriptView) (line : ℕ) : Type 0 where
  pub event : ℕ
  pub first : IsFirstFalse script event
  pub there : line ≡ line_of script event

-- a run stops at the first event at which false bytes open, or for want of memory
abbrev pub StopsEarly : ScriptView → EngineStop → Type 0
StopsEarly script (Opened line) = StopsAt script line
StopsEarly script OutOfMemory = Unit {0}

-- a run ends with its report, or early
abbrev pub EndsRun : ScriptView → Result ReportView EngineStop → Type 0
EndsRun script (Ok report) = IsReport script report
EndsRun script (Err stop) = StopsEarly script stop
