use Rattle.std.specs.Prelude.{List}
use Rattle.levels.specs.Rosters.{RosterView}
use Rattle.untrusted_store.specs.declared.plan.PlanRow.{PlanRow}
use Rattle.events.specs.declared.event.Event.{Event}

-- a script as its lines say it
pub record ScriptView : Type 0 where
  pub roster : RosterView
  -- what the store does, in the order of the lines
  pub rows : List PlanRow
  pub events : List Event
