-- The part of a script that a level may know.
use Rattle.std.specs.Prelude.{List, filter, Bool, false, Option, Some, None}
use Rattle.levels.specs.declared.level.Level.{Level}
use Rattle.levels.specs.declared.level.Party.{Party}
use Rattle.levels.specs.declared.level.Party.TheVariants.{Host, Manager}
use Rattle.levels.specs.Order.{is_at_most}
use Rattle.levels.specs.Rosters.{RosterView, level_of}
use Rattle.untrusted_store.specs.declared.plan.PlanRow.{PlanRow}
use Rattle.events.specs.declared.event.Event.{Event}
use Rattle.events.specs.declared.event.Event.TheVariants.{Send, Ask, Arrive, Carry, Forge, Tamper}
use Rattle.events.specs.ScriptView.{ScriptView}

-- where an event happens: at the host that sends or asks, else at the unit that the network reaches
abbrev pub place_of : Event → Party
place_of (Send from to message) = Host from
place_of (Ask from call) = Host from
place_of (Arrive stream message piece at) = at
place_of (Carry stream message at) = at
place_of (Forge at bytes) = at
place_of (Tamper stream message piece at edits) = at

-- whether a level is known and is at or below another
abbrev pub is_within : Option Level → Level → Bool
is_within None level = false
is_within (Some own) level = is_at_most own level

-- whether a party is at or below a level
abbrev pub is_low : RosterView → Level → Party → Bool
is_low roster level party = is_within (level_of roster party) level

-- the plan rows of readers at or below a level, in order
abbrev pub low_rows : RosterView → Level → List PlanRow → List PlanRow
low_rows roster level rows = filter (λ row. is_low roster level (Manager row.reader)) rows

-- the events that happen at or below a level, in order
abbrev pub low_events : RosterView → Level → List Event → List Event
low_events roster level events = filter (λ e. is_low roster level (place_of e)) events

-- the low part of a script: its roster, and its low plan rows and low events
abbrev pub low : Level → ScriptView → ScriptView
low level script = record {
  roster = script.roster;
  rows = low_rows script.roster level script.rows;
  events = low_events script.roster level script.events;
}
