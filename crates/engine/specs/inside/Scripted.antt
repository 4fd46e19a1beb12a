-- What holds of every script, and where a run of one is.
use Rattle.std.specs.Prelude.{◌≡◌, ℕ, ◌<◌, List, length, reverse, take, Option, Some, Result, Ok, Err}
use Rattle.levels.specs.declared.level.Level.{Level}
use Rattle.levels.specs.declared.level.Partition.{Partition}
use Rattle.levels.specs.declared.level.Party.{Party}
use Rattle.levels.specs.Rosters.{level_of}
use Rattle.levels.specs.Keys.{keys_at, guard_of}
use Rattle.seal_core.specs.Sealing.{IsSealing}
use Rattle.events.specs.ScriptView.{ScriptView}
use Rattle.events.specs.Scripts.{IsScript, line_of}
use Rattle.planned_files.specs.FilesView.{FilesView}
use Rattle.machine.specs.Setup.{setup_of}
use Rattle.machine.specs.Low.{low}
use Rattle.machine.specs.Machine.{told}
use Rattle.machine.specs.FalseBytes.{NoneFalse}
use Rattle.desk.specs.Views.{DeskView}
use Rattle.engine.specs.Reports.{StopsEarly}
use Rattle.engine.specs.declared.merging.SentRow.{SentRow}
use Rattle.engine.specs.declared.halt.Halt.{Halt}
use Rattle.engine.specs.declared.halt.Halt.TheVariants as halt
use Rattle.engine.specs.declared.report.EngineStop.{EngineStop}
use Rattle.engine.specs.declared.report.EngineStop.TheVariants as stop
use Rattle.engine.specs.inside.Facts.{Fits}
use Rattle.engine.specs.inside.Merging.{SentIs}
use Rattle.engine.specs.inside.Standing.{NetworkStands}

-- laws for all scripts
pub record ScriptLaws : Type 0 where
  pub fits : (script : ScriptView) (n : ℕ) → IsScript script
      → IsSealing (setup_of script).sealed
      → Fits (setup_of script) (reverse (take n script.events))
  pub keys : (script : ScriptView) (p : Partition) → IsScript script
      → p.0 < length script.roster.levels
      → keys_at script.roster p ≡ Some ((setup_of script).keys p.0)
  pub guard : (script : ScriptView) → IsScript script
      → guard_of script.roster ≡ Some (setup_of script).guard
  pub own_lines : (script : ScriptView) (level : Level) (r : Party)
      → level_of script.roster r ≡ Some level → told script r ≡ told (low level script) r

-- the first n events of a script have happened, and false bytes opened at none of them
pub record HasRun (script : ScriptView) (n : ℕ) (desks : List (Option DeskView))
    (files : FilesView) (sent : List SentRow) : Type 0 where
  pub stands : NetworkStands (setup_of script) (reverse (take n script.events)) desks files
  pub rows : SentIs (setup_of script) (reverse (take n script.events)) sent
  pub clean : NoneFalse script n

-- all events have happened, or false bytes opened at one of them
abbrev pub EndsFollowing : ScriptView → List (Option DeskView) → FilesView → List SentRow
    → Result (Unit {0}) EngineStop → Type 0
EndsFollowing script desks files sent (Ok done) =
    HasRun script (length script.events) desks files sent
EndsFollowing script desks files sent (Err stop) = StopsEarly script stop

-- why a run stops that halts at an event
abbrev pub stop_at : ScriptView → ℕ → Halt → EngineStop
stop_at script event halt.Opened = stop.Opened (line_of script event)
stop_at script event halt.OutOfMemory = stop.OutOfMemory
