-- The low part of a script, entry by entry, and the places at which it stands.
use Rattle.std.specs.Prelude.{ℕ, List, ◌++◌, length, map, filter, Bool, false, Option, slice_get}
use Rattle.std.specs.List.{range_with_len}
use Rattle.std.specs.Option.{option_map, option_map_or}
use Rattle.levels.specs.declared.level.Level.{Level}
use Rattle.levels.specs.declared.level.Party.TheVariants.{Manager}
use Rattle.levels.specs.Rosters.{RosterView}
use Rattle.untrusted_store.specs.declared.plan.PlanRow.{PlanRow}
use Rattle.events.specs.declared.event.Event.{Event}
use Rattle.events.specs.ScriptView.{ScriptView}
use Rattle.machine.specs.Low.{place_of, is_low, low}
use Rattle.two_worlds.specs.declared.places.LowItem.{LowItem}
use Rattle.two_worlds.specs.declared.places.LowItem.TheVariants as at

-- a plan row or an event of a low part
pub data LowEntry : Type 0 where
  RowEntry : PlanRow → LowEntry
  EventEntry : Event → LowEntry

-- the low part of a script as one list: its plan rows, and then its events
abbrev pub entries : Level → ScriptView → List LowEntry
entries level script =
    map RowEntry (low level script).rows ++ map EventEntry (low level script).events

-- whether a list has a member at a place, which passes a test
abbrev pub passes_at : {A : Type 0} → (A → Bool) → List A → ℕ → Bool
passes_at test xs place = option_map_or test (slice_get xs place) false

-- the places, from 0 and rising, of those members of a list that pass a test
abbrev pub places_where : {A : Type 0} → (A → Bool) → List A → List ℕ
places_where test xs = filter (passes_at test xs) (range_with_len 0 (length xs))

-- whether the reader of a plan row is at or below a level
abbrev pub is_low_row : RosterView → Level → PlanRow → Bool
is_low_row roster level row = is_low roster level (Manager row.reader)

-- whether an event happens at or below a level
abbrev pub is_low_event : RosterView → Level → Event → Bool
is_low_event roster level event = is_low roster level (place_of event)

-- the places of the low part: those of the low plan rows among the script's rows, and then those of
-- the low events among its events, both rising
abbrev pub low_items : Level → ScriptView → List LowItem
low_items level script =
    map at.Row (places_where (is_low_row script.roster level) script.rows)
    ++ map at.Event (places_where (is_low_event script.roster level) script.events)

-- what stands at a place of a script
abbrev pub entry_at : ScriptView → LowItem → Option LowEntry
entry_at script (at.Row place) = option_map RowEntry (slice_get script.rows place)
entry_at script (at.Event place) = option_map EventEntry (slice_get script.events place)
