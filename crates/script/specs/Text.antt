-- The one text of a script.
use Rattle.std.specs.Prelude.{ℕ, List, [], ◌∷◌, ◌++◌, map, unwrap_or}
use Rattle.std.specs.List.{flat_map, zip}
use Rattle.seal_core.specs.declared.KeyPair.{KeyPair}
use Rattle.levels.specs.declared.level.Party.{Party}
use Rattle.levels.specs.declared.level.Party.TheVariants.{Host, Manager}
use Rattle.levels.specs.declared.level.Sealing.{Sealing}
use Rattle.levels.specs.declared.level.Sealing.TheVariants.{Clear, Des}
use Rattle.levels.specs.declared.rows.LevelRow.{LevelRow}
use Rattle.levels.specs.declared.rows.HostRow.{HostRow}
use Rattle.levels.specs.Rosters.{RosterView, name_at}
use Rattle.levels.specs.Keys.{listed}
use Rattle.file_calls.specs.declared.call.Call.{Call}
use Rattle.file_calls.specs.declared.call.Call.TheVariants as call
use Rattle.untrusted_store.specs.declared.plan.PlanRow.{PlanRow}
use Rattle.untrusted_store.specs.declared.plan.StoreAction.{StoreAction}
use Rattle.untrusted_store.specs.declared.plan.StoreAction.TheVariants.{Honest, Of, Flip, Gone}
use Rattle.events.specs.declared.event.Event.{Event}
use Rattle.events.specs.declared.event.Event.TheVariants.{Send, Ask, Arrive, Carry, Forge, Tamper}
use Rattle.events.specs.declared.event.Stream.{Stream}
use Rattle.events.specs.ScriptView.{ScriptView}
use Rattle.script.specs.declared.line.PartyWord.{PartyWord}
use Rattle.script.specs.declared.line.PartyWord.TheVariants.{Address, Name}
use Rattle.script.specs.declared.line.StreamWord.{StreamWord}
use Rattle.script.specs.Lines.{CallWords, EventWords, StoreWords, Line}
use Rattle.script.specs.Lines as line
use Rattle.script.specs.Spelling.{ended_text}

abbrev pub name_or_none : RosterView → ℕ → List ℕ
name_or_none roster place = unwrap_or (name_at roster (record { 0 = place })) []

-- the word of a party: a manager unit has the name of its level
abbrev pub party_said : RosterView → Party → PartyWord
party_said roster (Host address) = Address address
party_said roster (Manager partition) = Name (name_or_none roster partition.0)

abbrev pub stream_said : RosterView → Stream → StreamWord
stream_said roster stream =
    record { from = party_said roster stream.from; to = party_said roster stream.to }

abbrev pub call_said : RosterView → Call → CallWords
call_said roster (call.Put name content) = line.Put name content
call_said roster (call.Get level name) = line.Get (name_or_none roster level) name
call_said roster (call.List level) = line.ListNames (name_or_none roster level)
call_said roster (call.Remove name) = line.Remove name
call_said roster (call.Append name content) = line.Append name content
call_said roster (call.GetBlock level name block) =
    line.Block (name_or_none roster level) name block

abbrev pub event_said : RosterView → Event → EventWords
event_said roster (Send from to message) = line.Send from (party_said roster to) message
event_said roster (Ask from asked) = line.Ask from (call_said roster asked)
event_said roster (Arrive stream message piece at) =
    line.Deliver (stream_said roster stream) message piece (party_said roster at)
event_said roster (Carry stream message at) =
    line.Carry (stream_said roster stream) message (party_said roster at)
event_said roster (Forge at bytes) = line.Forge (party_said roster at) bytes
event_said roster (Tamper stream message piece at edits) =
    line.Tamper (stream_said roster stream) message piece (party_said roster at) edits

abbrev pub action_said : RosterView → StoreAction → StoreWords
action_said roster Honest = line.Honest
action_said roster (Of level version) = line.Of (name_or_none roster level) version
action_said roster (Flip offset xor) = line.Flip offset xor
action_said roster Gone = line.Gone

-- ---- lines

abbrev pub lines_of_sealing : Sealing → List Line
lines_of_sealing Clear = []
lines_of_sealing Des = line.Seal ∷ []

abbrev pub line_of_level : LevelRow → Line
line_of_level row = line.Level row.name row.level

abbrev pub line_of_key : LevelRow × KeyPair → Line
line_of_key key = line.Key key.0.name key.1

abbrev pub line_of_guard : KeyPair → Line
line_of_guard pair = line.Guard pair

-- the key pairs that were added, in the order of the levels, and then the guarantor's
abbrev pub lines_of_keys : RosterView → List Line
lines_of_keys roster =
    map line_of_key (zip roster.levels roster.keys) ++ map line_of_guard (listed roster.guard)

abbrev pub line_of_host : RosterView → HostRow → Line
line_of_host roster row = line.Host row.address (name_or_none roster row.partition.0)

abbrev pub line_of_row : RosterView → PlanRow → Line
line_of_row roster row =
    line.Store (name_or_none roster row.reader.0) (action_said roster row.action)

abbrev pub line_of_event : RosterView → Event → Line
line_of_event roster event = line.Event (event_said roster event)

-- the lines of a script in their order
abbrev pub script_lines : ScriptView → List Line
script_lines script =
    (line.Version ∷ []) ++ lines_of_sealing script.roster.sealing
    ++ map line_of_level script.roster.levels ++ lines_of_keys script.roster
    ++ map (line_of_host script.roster) script.roster.hosts
    ++ map (line_of_row script.roster) script.rows ++ (line.Begin ∷ [])
    ++ map (line_of_event script.roster) script.events ++ (line.End ∷ [])

unfoldable pub text_of : ScriptView → List ℕ
text_of script = flat_map ended_text (script_lines script)
