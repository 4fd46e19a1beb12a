-- What a script can hold.
use Rattle.std.specs.Prelude.{◌≡◌, ℕ, ◌+◌, ◌<◌, ◌≤◌, ◌^◌, [], ◌∷◌, ◌++◌, length, Bool, true, false, ◌&&◌, nat_lt, is_some, Result, Ok, Err}
use Rattle.std.specs.List.{AllByRecursion}
use Rattle.seal_core.specs.Blocks.{AreBytes}
use Rattle.levels.specs.declared.level.Party.{Party}
use Rattle.levels.specs.declared.level.Party.TheVariants.{Host}
use Rattle.levels.specs.declared.level.Sealing.{Sealing}
use Rattle.levels.specs.declared.level.Sealing.TheVariants.{Clear, Des}
use Rattle.levels.specs.Rosters.{RosterView, partition_of}
use Rattle.levels.specs.Keys.{pairs_of}
use Rattle.levels.specs.Kept.{IsRoster, IsComplete}
use Rattle.file_calls.specs.declared.call.Call.{Call}
use Rattle.file_calls.specs.declared.call.Call.TheVariants as call
use Rattle.file_calls.specs.Spelling.{is_call}
use Rattle.untrusted_store.specs.declared.plan.PlanRow.{PlanRow}
use Rattle.untrusted_store.specs.declared.plan.StoreAction.{StoreAction}
use Rattle.untrusted_store.specs.declared.plan.StoreAction.TheVariants.{Honest, Of, Flip, Gone}
use Rattle.events.specs.declared.event.Event.{Event}
use Rattle.events.specs.declared.event.Event.TheVariants.{Send, Ask, Arrive, Carry, Forge, Tamper}
use Rattle.events.specs.declared.script.ScriptStop.{ScriptStop}
use Rattle.events.specs.declared.script.ScriptStop.TheVariants.{Name, Many, OutOfMemory}
use Rattle.events.specs.Edits.{AreEdits}
use Rattle.events.specs.ScriptView.{ScriptView}

-- ---- what events and rows name

-- whether the roster has the party
abbrev pub is_known : RosterView → Party → Bool
is_known roster party = is_some (partition_of roster party)

-- whether the roster has the level
abbrev pub has_level : RosterView → ℕ → Bool
has_level roster level = nat_lt level (length roster.levels)

-- whether the roster has the level that a call names, where it names one
abbrev pub is_call_named : RosterView → Call → Bool
is_call_named roster (call.Put name content) = true
is_call_named roster (call.Get level name) = has_level roster level
is_call_named roster (call.List level) = has_level roster level
is_call_named roster (call.Remove name) = true
is_call_named roster (call.Append name content) = true
is_call_named roster (call.GetBlock level name block) = has_level roster level

-- whether the roster has all parties and levels that the event names
abbrev pub is_named : RosterView → Event → Bool
is_named roster (Send from to message) = is_known roster (Host from) && is_known roster to
is_named roster (Ask from asked) = is_known roster (Host from) && is_call_named roster asked
is_named roster (Arrive stream message piece at) =
    is_known roster stream.from && is_known roster stream.to && is_known roster at
is_named roster (Carry stream message at) =
    is_known roster stream.from && is_known roster stream.to && is_known roster at
is_named roster (Forge at bytes) = is_known roster at
is_named roster (Tamper stream message piece at edits) =
    is_known roster stream.from && is_known roster stream.to && is_known roster at

-- whether the roster has the level that an action names, where it names one
abbrev pub is_action_named : RosterView → StoreAction → Bool
is_action_named roster Honest = true
is_action_named roster (Of level version) = has_level roster level
is_action_named roster (Flip offset xor) = true
is_action_named roster Gone = true

-- whether the roster has the reader of a row, and the level that its action names
abbrev pub is_row_named : RosterView → PlanRow → Bool
is_row_named roster row = has_level roster row.reader.0 && is_action_named roster row.action

-- ---- numbers in their ranges

-- a file has at most 64 blocks
abbrev pub HasBlockNumber : Call → Type 0
HasBlockNumber (call.GetBlock level name block) = block ≤ 63
HasBlockNumber _ = Unit {0}

-- a message has at most 64 pieces, and a file as many blocks
abbrev pub HasNumbers : Event → Type 0
HasNumbers (Send from to message) = Unit {0}
HasNumbers (Ask from asked) = HasBlockNumber asked
HasNumbers (Arrive stream message piece at) = piece ≤ 63
HasNumbers (Carry stream message at) = Unit {0}
HasNumbers (Forge at bytes) = Unit {0}
HasNumbers (Tamper stream message piece at edits) = piece ≤ 63

-- the values are in the ranges of their types
abbrev pub EventFits : Event → Type 0
EventFits (Send from to message) = AreBytes message
EventFits (Ask from asked) = is_call asked ≡ true
EventFits (Arrive stream message piece at) = (message < 2 ^ 32) × (piece ≤ 63)
EventFits (Carry stream message at) = message < 2 ^ 32
EventFits (Forge at bytes) = (length bytes ≡ 128) × AreBytes bytes
EventFits (Tamper stream message piece at edits) =
    (message < 2 ^ 32) × (piece ≤ 63) × AreEdits edits

abbrev pub ActionFits : StoreAction → Type 0
ActionFits Honest = Unit {0}
ActionFits (Of level version) = version < 2 ^ 64
ActionFits (Flip offset xor) = (offset < 2 ^ 32) × (xor < 256)
ActionFits Gone = Unit {0}

-- ---- scripts

pub record IsEvent (roster : RosterView) (event : Event) : Type 0 where
  pub named : is_named roster event ≡ true
  pub fits : EventFits event

pub record IsPlanRow (roster : RosterView) (row : PlanRow) : Type 0 where
  pub named : is_row_named roster row ≡ true
  pub fits : ActionFits row.action

-- what holds of every script
pub record IsScript (script : ScriptView) : Type 0 where
  pub roster : IsRoster script.roster
  pub complete : IsComplete script.roster
  pub row_room : length script.rows ≤ 100000
  pub rows : AllByRecursion (IsPlanRow script.roster) script.rows
  pub room : length script.events ≤ 100000
  pub events : AllByRecursion (IsEvent script.roster) script.events

abbrev pub with_row : ScriptView → PlanRow → ScriptView
with_row script row = record script { rows = script.rows ++ row ∷ [] }

abbrev pub with_event : ScriptView → Event → ScriptView
with_event script event = record script { events = script.events ++ event ∷ [] }

-- a row of known levels is added while there are fewer than 100,000, unless memory runs out
abbrev pub AddsRow : ScriptView → ScriptView → PlanRow → Result (Unit {0}) ScriptStop → Type 0
AddsRow old new row (Ok done) =
    (is_row_named old.roster row ≡ true) × (length old.rows < 100000) × (new ≡ with_row old row)
AddsRow old new row (Err Name) = (is_row_named old.roster row ≡ false) × (new ≡ old)
AddsRow old new row (Err Many) =
    (is_row_named old.roster row ≡ true) × (length old.rows ≡ 100000) × (new ≡ old)
AddsRow old new row (Err OutOfMemory) =
    (is_row_named old.roster row ≡ true) × (length old.rows < 100000) × (new ≡ old)

-- an event of known parties and levels is added while there are fewer than 100,000, unless memory
-- runs out
abbrev pub AddsEvent : ScriptView → ScriptView → Event → Result (Unit {0}) ScriptStop → Type 0
AddsEvent old new event (Ok done) =
    (is_named old.roster event ≡ true) × (length old.events < 100000)
    × (new ≡ with_event old event)
AddsEvent old new event (Err Name) = (is_named old.roster event ≡ false) × (new ≡ old)
AddsEvent old new event (Err Many) =
    (is_named old.roster event ≡ true) × (length old.events ≡ 100000) × (new ≡ old)
AddsEvent old new event (Err OutOfMemory) =
    (is_named old.roster event ≡ true) × (length old.events < 100000) × (new ≡ old)

-- ---- where an event stands

abbrev pub key_lines_under : Sealing → ℕ → ℕ
key_lines_under Clear pairs = 0
key_lines_under Des pairs = pairs + 1

-- how many lines say the sealing and the key pairs: none under clear sealing
abbrev pub key_lines : RosterView → ℕ
key_lines roster = key_lines_under roster.sealing (length (pairs_of roster))

-- the line of an event: above it stand the version, the levels, their keys, the hosts, the rows of
-- the plan and the beginning
abbrev pub line_of : ScriptView → ℕ → ℕ
line_of script event =
    length script.roster.levels + key_lines script.roster + length script.roster.hosts
    + length script.rows + event + 3
