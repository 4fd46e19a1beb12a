-- The drill of two numbers.
use Rattle.std.specs.Prelude.{ℕ, List, []}
use Rattle.std.specs.List.{flat_map, range_with_len}
use Rattle.events.specs.declared.event.Event.{Event}
use Rattle.events.specs.ScriptView.{ScriptView}
use Rattle.drill.specs.Steps.{step_at, steps}
use Rattle.drill.specs.Events.{step_events}
use Rattle.drill.specs.Rosters.{drill_roster}

-- the events of a step by its number from 0
abbrev pub events_at : ℕ → ℕ → List Event
events_at seed i = step_events (steps seed i) (step_at seed i)

-- the drill of a seed and a number of steps; no row plans what its store answers
unfoldable pub drill : ℕ → ℕ → ScriptView
drill seed count = record {
  roster = drill_roster;
  rows = [];
  events = flat_map (events_at seed) (range_with_len 0 count);
}
