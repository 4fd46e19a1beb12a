-- What the lines so far say.
use Rattle.std.specs.Prelude.{List, [], ◌∷◌, Bool, true, false, Option, Some, None, unwrap_or, filter_map, if◌then◌else◌}
use Rattle.std.specs.List.{list_any}
use Rattle.seal_core.specs.declared.KeyPair.{KeyPair}
use Rattle.levels.specs.declared.level.Sealing.{Sealing}
use Rattle.levels.specs.declared.level.Sealing.TheVariants.{Clear, Des}
use Rattle.levels.specs.declared.rows.LevelRow.{LevelRow}
use Rattle.levels.specs.declared.rows.HostRow.{HostRow}
use Rattle.levels.specs.Rosters.{RosterView, level_named}
use Rattle.untrusted_store.specs.declared.plan.PlanRow.{PlanRow}
use Rattle.events.specs.declared.event.Event.{Event}
use Rattle.events.specs.ScriptView.{ScriptView}
use Rattle.script.specs.Lines.{Line}
use Rattle.script.specs.Lines as line
use Rattle.script.specs.Naming.{◌>>=◌}
use Rattle.script.specs.Naming.{either, event_named, row_named}

-- the kinds of lines; all event lines are of one kind
pub data Kind : Type 0 where
  version_line : Kind
  seal_line : Kind
  level_line : Kind
  key_line : Kind
  guard_line : Kind
  host_line : Kind
  store_line : Kind
  begin_line : Kind
  event_line : Kind
  end_line : Kind

abbrev pub kind_of : Line → Kind
kind_of line.Version = version_line
kind_of line.Seal = seal_line
kind_of (line.Level name level) = level_line
kind_of (line.Key level pair) = key_line
kind_of (line.Guard pair) = guard_line
kind_of (line.Host address level) = host_line
kind_of (line.Store reader action) = store_line
kind_of line.Begin = begin_line
kind_of (line.Event words) = event_line
kind_of line.End = end_line

abbrev pub last_kind : List Line → Option Kind
last_kind [] = None
last_kind (first ∷ lines) = Some (unwrap_or (last_kind lines) (kind_of first))

abbrev pub is_seal : Line → Bool
is_seal line.Seal = true
is_seal _ = false

abbrev pub is_end : Line → Bool
is_end line.End = true
is_end _ = false

-- ---- what each line adds

abbrev pub as_level : Line → Option LevelRow
as_level (line.Level name level) = Some (record { name = name; level = level })
as_level _ = None

-- the key pair of a level
abbrev pub as_pair : Line → Option KeyPair
as_pair (line.Key level pair) = Some pair
as_pair _ = None

-- the guarantor's key pair
abbrev pub as_guard : Line → Option KeyPair
as_guard (line.Guard pair) = Some pair
as_guard _ = None

abbrev pub as_host : RosterView → Line → Option HostRow
as_host roster (line.Host address level) = do
  partition ← level_named roster level
  Some (record { address = address; partition = partition })
as_host roster _ = None

abbrev pub as_row : RosterView → Line → Option PlanRow
as_row roster (line.Store reader action) = row_named roster reader action
as_row roster _ = None

abbrev pub as_event : RosterView → Line → Option Event
as_event roster (line.Event words) = event_named roster words
as_event roster _ = None

-- ---- all lines together

-- under DES where a line says so
abbrev pub sealing_said : List Line → Sealing
sealing_said lines = if list_any is_seal lines then Des else Clear

abbrev pub levels_of : List Line → List LevelRow
levels_of lines = filter_map as_level lines

-- a roster of some levels alone: what their names stand for
abbrev pub names_of : List LevelRow → RosterView
names_of levels =
    record { sealing = Clear; levels = levels; keys = []; guard = None; hosts = [] }

-- the key pairs of the levels, in their order
abbrev pub pairs_said : List Line → List KeyPair
pairs_said lines = filter_map as_pair lines

-- the guarantor's key pair: that of the last line which says one
abbrev pub guard_said : List Line → Option KeyPair
guard_said [] = None
guard_said (first ∷ lines) = either (guard_said lines) (as_guard first)

abbrev pub hosts_of : List Line → List HostRow
hosts_of lines = filter_map (as_host (names_of (levels_of lines))) lines

-- the roster with the numbers of the levels in place of their names
abbrev pub roster_of : List Line → RosterView
roster_of lines = record {
  sealing = sealing_said lines;
  levels = levels_of lines;
  keys = pairs_said lines;
  guard = guard_said lines;
  hosts = hosts_of lines;
}

abbrev pub rows_of : List Line → List PlanRow
rows_of lines = filter_map (as_row (names_of (levels_of lines))) lines

abbrev pub events_of : List Line → List Event
events_of lines = filter_map (as_event (names_of (levels_of lines))) lines

pub record Facts : Type 0 where
  pub last : Option Kind
  pub roster : RosterView
  pub rows : List PlanRow
  pub events : List Event
  pub ended : Bool

abbrev pub facts : List Line → Facts
facts lines = record {
  last = last_kind lines;
  roster = roster_of lines;
  rows = rows_of lines;
  events = events_of lines;
  ended = list_any is_end lines;
}

-- the script that lines say
abbrev pub script_said : List Line → ScriptView
script_said lines =
    record { roster = roster_of lines; rows = rows_of lines; events = events_of lines }
