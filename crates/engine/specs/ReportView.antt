use Rattle.std.specs.Prelude.{List}
use Rattle.events.specs.ScriptView.{ScriptView}
use Rattle.unit_core.specs.Views.{TallyView}
use Rattle.machine.specs.declared.line.OutLine.{OutLine}
use Rattle.machine.specs.declared.line.FrameRow.{FrameRow}

-- a script that was run; what the host of each address was told; all frames in order of event and
-- piece; and what the unit of each slot counted
pub record ReportView : Type 0 where
  pub script : ScriptView
  pub lines : List (List OutLine)
  pub frames : List FrameRow
  pub tallies : List TallyView
