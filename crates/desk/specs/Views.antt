-- A desk, as its callers see it.
use Rattle.std.specs.Prelude.{ℕ, List, []}
use Rattle.machine.specs.declared.line.OutLine.{OutLine}
use Rattle.unit_core.specs.Views.{OutgoingView, UnitView}
use Rattle.desk.specs.Wires.{WireView}
use Rattle.desk.specs.declared.batch.Waiting.{Waiting}

-- a batch as it is kept: what waits in it, in order, and its sends apart from its frames
pub record BatchView : Type 0 where
  pub order : List Waiting
  pub sends : List OutgoingView
  pub frames : List (List ℕ)

-- nothing waits
abbrev pub no_batch : BatchView
no_batch = record { order = []; sends = []; frames = [] }

-- a unit, what its party was told, what it sealed, and its open batch
pub record DeskView : Type 0 where
  pub unit : UnitView
  pub lines : List OutLine
  pub wire : WireView
  pub batch : BatchView
