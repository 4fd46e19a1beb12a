-- How far the reading of a text has come.
use Rattle.std.specs.Prelude.{◌≡◌, ◌<◌, ◌≤◌, ℕ, List, [], ◌∷◌, ◌++◌, length, Bool, true, false, ◌||◌, Option, Some, None, Result, Ok, Err}
use Rattle.levels.specs.Rosters.{RosterView, level_named, with_level, with_keys, with_guard, with_host}
use Rattle.levels.specs.Kept.{IsComplete}
use Rattle.levels.specs.declared.level.Partition.{Partition}
use Rattle.levels.specs.declared.level.Sealing.{Sealing}
use Rattle.levels.specs.declared.level.Sealing.TheVariants.{Clear, Des}
use Rattle.untrusted_store.specs.declared.plan.PlanRow.{PlanRow}
use Rattle.levels.specs.declared.roster.RosterStop.{RosterStop}
use Rattle.levels.specs.declared.roster.RosterStop.TheVariants as roster_stop
use Rattle.events.specs.declared.script.ScriptStop.{ScriptStop}
use Rattle.events.specs.declared.script.ScriptStop.TheVariants as script_stop
use Rattle.script.specs.declared.refusal.Reason.TheVariants.{Form, Name, Twice, Many, Key, End}
use Rattle.levels.specs.declared.level.Party.{Party}
use Rattle.events.specs.declared.event.Event.{Event}
use Rattle.events.specs.declared.event.Stream.{Stream}
use Rattle.events.specs.ScriptView.{ScriptView}
use Rattle.script.specs.declared.line.PartyWord.{PartyWord}
use Rattle.script.specs.declared.line.StreamWord.{StreamWord}
use Rattle.script.specs.Naming.{◌>>=◌}
use Rattle.script.specs.Naming.{party_named, stream_named}
use Rattle.script.specs.Lines.{Line}
use Rattle.script.specs.Lines as line
use Rattle.script.specs.declared.refusal.Reason.{Reason}
use Rattle.script.specs.declared.refusal.Stop.{Stop}
use Rattle.script.specs.declared.refusal.Stop.TheVariants as stop
use Rattle.script.specs.declared.refusal.ScriptRefused.{ScriptRefused}
use Rattle.script.specs.declared.refusal.ScriptRefused.TheVariants as whole
use Rattle.script.specs.declared.stage.Stage.{Stage}
use Rattle.script.specs.declared.stage.Stage.TheVariants.{Nothing, Version, Sealed, Levels, Keys, Guarded, Hosts, Planned, Begun, Events, Ended}
use Rattle.script.specs.inside.Readers.{line_read}
use Rattle.script.specs.Facts.{Kind, version_line, seal_line, level_line, key_line, guard_line, host_line, store_line, begin_line, event_line, end_line, kind_of, is_end, as_row, as_event, Facts}
use Rattle.script.specs.Reasons.{may_follow, against}

-- What a function gave is what words stand for; it stops with `name` exactly where they stand for
-- nothing.
abbrev pub Finds : {X : Type 0} → Result X Stop → Option X → Type 0
Finds (Ok x) named = named ≡ Some x
Finds (Err (stop.Refused reason)) named = (named ≡ None) × (reason ≡ Name)
Finds (Err stop.OutOfMemory) named = Unit {0}

-- the stream and the unit to which something is handed
abbrev pub handed_named : RosterView → StreamWord → PartyWord → Option (Stream × Party)
handed_named roster stream at = do
  parties ← stream_named roster stream
  party ← party_named roster at
  Some (parties, party)

-- the first reason against what was read of a line
abbrev pub reason_of : Facts → Option Line → Option Reason
reason_of so_far None = Some Form
reason_of so_far (Some line') = against so_far line'

-- the reason against what stands behind the last newline, where an `end` was read or not
abbrev pub at_end : Bool → List ℕ → Option Reason
at_end ended (c ∷ tail) = Some Form
at_end true [] = None
at_end false [] = Some End

-- how the refusal of a level, a host or an event stops the reading
abbrev pub stop_of_roster : RosterStop → Stop
stop_of_roster roster_stop.Twice = stop.Refused Twice
stop_of_roster roster_stop.Many = stop.Refused Many
stop_of_roster roster_stop.Key = stop.Refused Key
stop_of_roster roster_stop.OutOfMemory = stop.OutOfMemory

abbrev pub stop_of_script : ScriptStop → Stop
stop_of_script script_stop.Name = stop.Refused Name
stop_of_script script_stop.Many = stop.Refused Many
stop_of_script script_stop.OutOfMemory = stop.OutOfMemory

abbrev pub facts_with : Kind → RosterView → List PlanRow → List Event → Bool → Facts
facts_with last roster rows events ended =
    record { last = Some last; roster = roster; rows = rows; events = events; ended = ended }

abbrev pub no_roster : Sealing → RosterView
no_roster sealing =
    record { sealing = sealing; levels = []; keys = []; guard = None; hosts = [] }

-- what the lines so far said, as a stage has it
abbrev pub seen : Stage → Facts
seen Nothing =
    record { last = None; roster = no_roster Clear; rows = []; events = []; ended = false }
seen Version = facts_with version_line (no_roster Clear) [] [] false
seen Sealed = facts_with seal_line (no_roster Des) [] [] false
seen (Levels roster) = facts_with level_line roster [] [] false
seen (Keys roster) = facts_with key_line roster [] [] false
seen (Guarded roster) = facts_with guard_line roster [] [] false
seen (Hosts roster) = facts_with host_line roster [] [] false
seen (Planned script) = facts_with store_line script.roster script.rows script.events false
seen (Begun script) = facts_with begin_line script.roster script.rows script.events false
seen (Events script) = facts_with event_line script.roster script.rows script.events false
seen (Ended script) = facts_with end_line script.roster script.rows script.events true

-- a roster with a level and no key pair
pub record IsUnkeyed (roster : RosterView) : Type 0 where
  pub some : 0 < length roster.levels
  pub keys : roster.keys ≡ []
  pub guard : roster.guard ≡ None

-- a roster under DES whose first levels have their key pairs
pub record IsKeyed (roster : RosterView) : Type 0 where
  pub some : 0 < length roster.levels
  pub des : roster.sealing ≡ Des
  pub keys : length roster.keys ≤ length roster.levels
  pub guard : roster.guard ≡ None

-- what holds of the roster of a stage
abbrev pub IsSound : Stage → Type 0
IsSound (Levels roster) = IsUnkeyed roster
IsSound (Keys roster) = IsKeyed roster
IsSound (Guarded roster) = IsComplete roster
IsSound (Hosts roster) = IsComplete roster
IsSound _ = Unit {0}

abbrev pub with_some : {A : Type 0} → List A → Option A → List A
with_some xs None = xs
with_some xs (Some x) = xs ++ x ∷ []

abbrev pub host_added : RosterView → ℕ → Option Partition → RosterView
host_added roster address None = roster
host_added roster address (Some partition) = with_host roster address partition

abbrev pub roster_after : RosterView → Line → RosterView
roster_after roster line.Seal = record roster { sealing = Des }
roster_after roster (line.Level name level) = with_level roster name level
roster_after roster (line.Key level pair) = with_keys roster pair
roster_after roster (line.Guard pair) = with_guard roster pair
roster_after roster (line.Host address level) = host_added roster address (level_named roster level)
roster_after roster _ = roster

-- the facts with one more line
abbrev pub after : Facts → Line → Facts
after so_far line' = record {
  last = Some (kind_of line');
  roster = roster_after so_far.roster line';
  rows = with_some so_far.rows (as_row so_far.roster line');
  events = with_some so_far.events (as_event so_far.roster line');
  ended = so_far.ended || is_end line';
}

-- what is left where a stage is changed in its place
abbrev pub left_by : Result (Unit {0}) Stop → Stage → Result Stage Stop
left_by (Ok done) new = Ok new
left_by (Err why) new = Err why

-- A line is taken where nothing is against it; else it is refused for the first reason.
abbrev pub Takes : Facts → Line → Result Stage Stop → Type 0
Takes so_far line' (Ok new) =
    (against so_far line' ≡ None) × (seen new ≡ after so_far line') × IsSound new
Takes so_far line' (Err (stop.Refused reason)) = against so_far line' ≡ Some reason
Takes so_far line' (Err stop.OutOfMemory) = Unit {0}

-- The same behind any line that such a line may follow.
abbrev pub TakesBehind : RosterView → List PlanRow → List Event → Line → Result Stage Stop → Type 0
TakesBehind roster rows events line' result =
    (last : Kind) → may_follow roster (Some last) (kind_of line') ≡ true
    → Takes (facts_with last roster rows events false) line' result

-- the same of the text of a line
abbrev pub Steps : Facts → List ℕ → Result Stage Stop → Type 0
Steps so_far text (Ok new) =
    (line' : Line) × (line_read text ≡ Some line') × (against so_far line' ≡ None)
    × (seen new ≡ after so_far line') × IsSound new
Steps so_far text (Err (stop.Refused reason)) = reason_of so_far (line_read text) ≡ Some reason
Steps so_far text (Err stop.OutOfMemory) = Unit {0}

-- A script is all that was said where nothing is against the end of the text.
abbrev pub Finishes : Facts → List ℕ → Result ScriptView Reason → Type 0
Finishes so_far tail (Ok script) =
    (at_end so_far.ended tail ≡ None) × (script.roster ≡ so_far.roster)
    × (script.rows ≡ so_far.rows) × (script.events ≡ so_far.events)
Finishes so_far tail (Err reason) = at_end so_far.ended tail ≡ Some reason

-- why a text gave no script, where a line stopped the reading
abbrev pub at_line : ℕ → Stop → ScriptRefused
at_line number (stop.Refused reason) = whole.Refused (record { line = number; reason = reason })
at_line number stop.OutOfMemory = whole.OutOfMemory
