-- What the lines of a script that can be held are like.
use Rattle.std.proofs.Common.{zero, suc, ◌≡◌, ℕ, ◌<◌, Bool, true, false, ◌&&◌, ltb, leb, cond, List, [], ◌∷◌, ◌++◌, length, map, Option, Some, None, refl, arith}
use Rattle.std.specs.Prelude.{is_some}
use Rattle.std.specs.List.{AllByRecursion, zip}
use Rattle.std.specs.Option.{option_map}
use Rattle.std.proofs.lemmas.Bool.{ltb-true, leb-true}
use Rattle.std.proofs.lemmas.Bool.Decides.{nat_tests}
use Rattle.seal_core.specs.declared.KeyPair.{KeyPair}
use Rattle.levels.specs.declared.level.Party.{Party}
use Rattle.levels.specs.declared.level.Party.TheVariants.{Host, Manager}
use Rattle.levels.specs.declared.level.Partition.{Partition}
use Rattle.levels.specs.declared.level.Sealing.{Sealing}
use Rattle.levels.specs.declared.level.Sealing.TheVariants.{Clear, Des}
use Rattle.levels.specs.declared.rows.LevelRow.{LevelRow}
use Rattle.levels.specs.declared.rows.HostRow.{HostRow}
use Rattle.levels.specs.Rosters.{RosterView, host_row}
use Rattle.levels.specs.Keys.{listed}
use Rattle.levels.specs.Kept.{IsLevelRow, IsHostRow, IsKeyPair, IsRoster}
use Rattle.file_calls.specs.declared.call.Call.{Call}
use Rattle.file_calls.specs.declared.call.Call.TheVariants as call
use Rattle.file_calls.specs.Names.{is_name, is_content, is_byte}
use Rattle.file_calls.specs.Spelling.{is_call}
use Rattle.untrusted_store.specs.declared.plan.PlanRow.{PlanRow}
use Rattle.untrusted_store.specs.declared.plan.StoreAction.{StoreAction}
use Rattle.untrusted_store.specs.declared.plan.StoreAction.TheVariants.{Honest, Of, Flip, Gone}
use Rattle.events.specs.declared.event.Event.{Event}
use Rattle.events.specs.declared.event.Event.TheVariants.{Send, Ask, Arrive, Carry, Forge, Tamper}
use Rattle.events.specs.declared.event.Stream.{Stream}
use Rattle.events.specs.ScriptView.{ScriptView}
use Rattle.events.specs.Scripts.{is_known, has_level, is_call_named, is_action_named, ActionFits, IsEvent, IsPlanRow, IsScript}
use Rattle.script.specs.Lines.{Line}
use Rattle.script.specs.Lines as line
use Rattle.script.specs.Ranges.{IsAddress, IsLevelName, HasPartyRange, HasStreamRanges, HasCallRanges, HasActionRanges, HasRanges}
use Rattle.script.specs.Laws.{IsSaid, IsSpelled}
use Rattle.script.specs.Text.{name_or_none, party_said, stream_said, call_said, action_said, lines_of_sealing, line_of_level, line_of_key, line_of_guard, lines_of_keys, line_of_host, line_of_row, line_of_event, script_lines}
use Rattle.script.proofs.Tools.{both, all_left, all_right, all_append}
use Rattle.script.proofs.Inks.{IsHeldAction, IsHeld, ranges_held}
use Rattle.script.proofs.Naming.{some_of}
use Rattle.script.proofs.Found.{found_row}

-- the name of a level that is there is the name of a level
names_fit : (rest : RosterView) (levels : List LevelRow) (place : ℕ) → place < length levels
    → AllByRecursion IsLevelRow levels
    → IsLevelName (name_or_none (record rest { levels = levels }) place)
names_fit rest [] place lt rows = absurd (omega arith)
names_fit rest (l ∷ levels) zero lt rows = rows.0.name
names_fit rest (l ∷ levels) (suc place) lt rows = names_fit rest levels place (omega arith) rows.1

pub name_fits : (roster : RosterView) (place : ℕ) → place < length roster.levels
    → AllByRecursion IsLevelRow roster.levels
    → IsLevelName (name_or_none roster place)
name_fits roster place lt rows = names_fit roster roster.levels place lt rows

level_fits : (roster : RosterView) (level : ℕ) → IsRoster roster → has_level roster level ≡ true
    → IsLevelName (name_or_none roster level)
level_fits roster level good has = name_fits roster level
    (ltb-true level (length roster.levels) has) good.levels

-- the address of a host that is there is an address
known_range : (roster : RosterView) (address : ℕ) → IsRoster roster
    → is_known roster (Host address) ≡ true → IsAddress address
known_range roster address good known =
    let found = some_of (host_row roster address) (by_row (host_row roster address) known) in
    found_row (length roster.levels) roster.hosts address found.0 good.hosts found.1
  where
    by_row : (o : Option HostRow) → is_some (option_map (λ row. row.partition) o) ≡ true
        → is_some o ≡ true
    by_row None e = absurd cc
    by_row (Some row) e = refl

pub known_place : (roster : RosterView) (partition : Partition)
    → is_known roster (Manager partition) ≡ true → partition.0 < length roster.levels
known_place roster partition known = by_test (ltb partition.0 (length roster.levels)) refl known
  where
    by_test : (b : Bool) → ltb partition.0 (length roster.levels) ≡ b
        → is_some (cond b (Some partition) None) ≡ true → partition.0 < length roster.levels
    by_test true e known = grind (arith, nat_tests)
    by_test false e known = absurd cc

party_range : (roster : RosterView) (party : Party) → IsRoster roster → is_known roster party ≡ true
    → HasPartyRange (party_said roster party)
party_range roster (Host address) good known = known_range roster address good known
party_range roster (Manager partition) good known =
    name_fits roster partition.0 (known_place roster partition known) good.levels

abbrev pub AreKnown : RosterView → Stream → Party → Type 0
AreKnown roster stream at = (is_known roster stream.from ≡ true)
    × (is_known roster stream.to ≡ true) × (is_known roster at ≡ true)

pub all_known : (roster : RosterView) (stream : Stream) (at : Party)
    → (is_known roster stream.from && is_known roster stream.to && is_known roster at) ≡ true
    → AreKnown roster stream at
all_known roster stream at named =
    let all = both (is_known roster stream.from && is_known roster stream.to) (is_known roster at)
    named in
    let ends = both (is_known roster stream.from) (is_known roster stream.to) all.0 in
    (ends.0, ends.1, all.1)

stream_range : (roster : RosterView) (stream : Stream) (at : Party) → IsRoster roster
    → AreKnown roster stream at
    → HasStreamRanges (stream_said roster stream)
stream_range roster stream at good known =
    (party_range roster stream.from good known.0, party_range roster stream.to good known.1)

call_range : (roster : RosterView) (asked : Call) → IsRoster roster
    → is_call_named roster asked ≡ true → is_call asked ≡ true
    → HasCallRanges (call_said roster asked)
call_range roster (call.Put name content) good named is =
    both (is_name name) (is_content content) is
call_range roster (call.Get level name) good named is =
    (level_fits roster level good named, (both (is_byte level) (is_name name) is).1)
call_range roster (call.List level) good named is = level_fits roster level good named
call_range roster (call.Remove name) good named is = is
call_range roster (call.Append name content) good named is =
    both (is_name name) (is_content content) is
call_range roster (call.GetBlock level name block) good named is =
    let fields = both (is_byte level && is_name name) (leb block 63) is in
    let few = leb-true block 63 fields.1 in (
      level_fits roster level good named,
      (both (is_byte level) (is_name name) fields.0).1,
      (omega arith, few),
    )

event_range : (roster : RosterView) (event : Event) → IsRoster roster → IsEvent roster event
    → HasRanges (line_of_event roster event)
event_range roster (Send from to message) good is =
    let known = both (is_known roster (Host from)) (is_known roster to) is.named in
    (known_range roster from good known.0, party_range roster to good known.1, is.fits)
event_range roster (Ask from asked) good is =
    let known = both (is_known roster (Host from)) (is_call_named roster asked) is.named in
    (known_range roster from good known.0, call_range roster asked good known.1 is.fits)
event_range roster (Forge at bytes) good is =
    (party_range roster at good is.named, is.fits.0, is.fits.1)
event_range roster (Tamper stream message piece at edits) good is =
    let known = all_known roster stream at is.named in (
      stream_range roster stream at good known,
      (omega arith, omega (arith, is.fits.0)),
      (omega arith, is.fits.1),
      party_range roster at good known.2,
      is.fits.2,
    )
event_range roster (Arrive stream message piece at) good is =
    let known = all_known roster stream at is.named in (
      stream_range roster stream at good known,
      (omega arith, omega (arith, is.fits.0)),
      (omega arith, is.fits.1),
      party_range roster at good known.2,
    )
event_range roster (Carry stream message at) good is =
    let known = all_known roster stream at is.named in (
      stream_range roster stream at good known,
      (omega arith, omega (arith, is.fits)),
      party_range roster at good known.2,
    )

level_range : (row : LevelRow) → IsLevelRow row → HasRanges (line_of_level row)
level_range row is = (is.name, (omega arith, is.rank), is.cats)

host_range : (roster : RosterView) (row : HostRow) → IsRoster roster
    → IsHostRow (length roster.levels) row → HasRanges (line_of_host roster row)
host_range roster row good is = (
  (is.least, is.most),
  name_fits roster row.partition.0 is.partition good.levels,
)

action_held : (roster : RosterView) (action : StoreAction) → IsRoster roster
    → is_action_named roster action ≡ true → ActionFits action
    → IsHeldAction (action_said roster action)
action_held roster Honest good named fits = tt
action_held roster (Of level version) good named fits = (level_fits roster level good named, fits)
action_held roster (Flip offset xor) good named fits = fits
action_held roster Gone good named fits = tt

row_held : (roster : RosterView) (row : PlanRow) → IsRoster roster → IsPlanRow roster row
    → IsHeld (line_of_row roster row)
row_held roster row good is =
    let named = both (has_level roster row.reader.0) (is_action_named roster row.action) is.named in (
      level_fits roster row.reader.0 good named.0,
      action_held roster row.action good named.1 is.fits,
    )

action_range : (roster : RosterView) (action : StoreAction) → IsRoster roster
    → is_action_named roster action ≡ true → ActionFits action → IsSaid action
    → HasActionRanges (action_said roster action)
action_range roster Honest good named fits said = tt
action_range roster (Of level version) good named fits said =
    (level_fits roster level good named, said)
action_range roster (Flip offset xor) good named fits said =
    ((omega arith, omega (arith, fits.0)), (omega (arith, said), omega (arith, fits.1)))
action_range roster Gone good named fits said = tt

-- ---- all lines

all_mapped : {X : Type 0} (P : X → Type 0) (Q : Line → Type 0) (f : X → Line)
    → ((x : X) → P x → Q (f x)) → (xs : List X) → AllByRecursion P xs
    → AllByRecursion Q (map f xs)
all_mapped P Q f h [] all = tt
all_mapped P Q f h (x ∷ xs) all = (h x all.0, all_mapped P Q f h xs all.1)

weaker : (P : Line → Type 0) → ((made : Line) → HasRanges made → P made) → (lines : List Line)
    → AllByRecursion HasRanges lines → AllByRecursion P lines
weaker P h [] all = tt
weaker P h (made ∷ lines) all = (h made all.0, weaker P h lines all.1)

abbrev HaveRanges : List Line → Type 0
HaveRanges lines = AllByRecursion HasRanges lines

sealing_range : (sealing : Sealing) → HaveRanges (lines_of_sealing sealing)
sealing_range Clear = tt
sealing_range Des = (tt, tt)

pairs_range : (levels : List LevelRow) (pairs : List KeyPair) → AllByRecursion IsLevelRow levels
    → AllByRecursion IsKeyPair pairs
    → HaveRanges (map line_of_key (zip levels pairs))
pairs_range [] [] rows are = tt
pairs_range [] (pair ∷ pairs) rows are = tt
pairs_range (row ∷ levels) [] rows are = tt
pairs_range (row ∷ levels) (pair ∷ pairs) rows are =
    ((rows.0.name, are.0), pairs_range levels pairs rows.1 are.1)

keys_range : (roster : RosterView) → IsRoster roster → HaveRanges (lines_of_keys roster)
keys_range roster good =
    let guards = all_left IsKeyPair (listed roster.guard) roster.keys good.pairs in
    let keys = all_right IsKeyPair (listed roster.guard) roster.keys good.pairs in
    all_append HasRanges (map line_of_key (zip roster.levels roster.keys))
    (map line_of_guard (listed roster.guard))
    (pairs_range roster.levels roster.keys good.levels keys)
    (all_mapped IsKeyPair HasRanges line_of_guard (λ pair is. is) (listed roster.guard) guards)

module _ (script : ScriptView) (good : IsScript script) where
  abbrev front : List Line
  front = (line.Version ∷ []) ++ lines_of_sealing script.roster.sealing
      ++ map line_of_level script.roster.levels

  abbrev above : List Line
  above = front ++ lines_of_keys script.roster
      ++ map (line_of_host script.roster) script.roster.hosts

  abbrev rows : List Line
  rows = map (line_of_row script.roster) script.rows

  abbrev events : List Line
  events = map (line_of_event script.roster) script.events

  above_range : HaveRanges above
  above_range =
      let roster = script.roster in
      let version = line.Version ∷ [] in
      let sealing = lines_of_sealing roster.sealing in
      let levels = map line_of_level roster.levels in
      let hosts = map (line_of_host roster) roster.hosts in
      all_append HasRanges (front ++ lines_of_keys roster) hosts
      (all_append HasRanges front (lines_of_keys roster)
      (all_append HasRanges (version ++ sealing) levels
      (all_append HasRanges version sealing (tt, tt) (sealing_range roster.sealing))
      (all_mapped IsLevelRow HasRanges line_of_level level_range roster.levels good.roster.levels))
      (keys_range roster good.roster))
      (all_mapped (IsHostRow (length roster.levels)) HasRanges (line_of_host roster)
      (λ row is. host_range roster row good.roster is) roster.hosts good.roster.hosts)

  events_range : HaveRanges events
  events_range = all_mapped (IsEvent script.roster) HasRanges (line_of_event script.roster)
      (λ event is. event_range script.roster event good.roster is) script.events good.events

  -- what holds of lines in their ranges, and of the lines of the plan, holds of all lines
  script_all : (P : Line → Type 0) → ((made : Line) → HasRanges made → P made)
      → AllByRecursion P rows → AllByRecursion P (script_lines script)
  script_all P h rows_all =
      let begin = line.Begin ∷ [] in
      all_append P (above ++ rows ++ begin ++ events) (line.End ∷ [])
      (all_append P (above ++ rows ++ begin) events
      (all_append P (above ++ rows) begin
      (all_append P above rows (weaker P h above above_range) rows_all) (h line.Begin tt, tt))
      (weaker P h events events_range)) (h line.End tt, tt)

  pub script_held : AllByRecursion IsHeld (script_lines script)
  script_held = script_all IsHeld ranges_held
      (all_mapped (IsPlanRow script.roster) IsHeld (line_of_row script.roster)
      (λ row is. row_held script.roster row good.roster is) script.rows good.rows)

  rows_range : (rows : List PlanRow) → AllByRecursion (IsPlanRow script.roster) rows
      → AllByRecursion (λ (row : PlanRow). IsSaid row.action) rows
      → HaveRanges (map (line_of_row script.roster) rows)
  rows_range [] are said = tt
  rows_range (row ∷ rows) are said =
      let named = both (has_level script.roster row.reader.0)
      (is_action_named script.roster row.action) are.0.named in (
        (
          level_fits script.roster row.reader.0 good.roster named.0,
          action_range script.roster row.action good.roster named.1 are.0.fits said.0,
        ),
        rows_range rows are.1 said.1,
      )

  pub script_ranges : IsSpelled script → HaveRanges (script_lines script)
  script_ranges spelled =
      script_all HasRanges (λ made is. is) (rows_range script.rows good.rows spelled)
