-- The lines of a script's text, and where its events stand.
use Rattle.std.proofs.Common.{◌≡◌, ℕ, ◌+◌, ◌-◌, eqb, List, [], ◌∷◌, ◌++◌, length, map, Option, Some, refl, ap, ◌∙◌, arith, append_assoc, length-append, min}
use Rattle.std.specs.Prelude.{slice_get}
use Rattle.std.specs.List.{AllByRecursion, flat_map, zip}
use Rattle.std.specs.Option.{option_map}
use Rattle.std.proofs.lemmas.List.{length-map}
use Rattle.std.proofs.lemmas.List.Splits.{slice_split_at}
use Rattle.std.proofs.lemmas.Option.{slice_get-map}
use Rattle.std.proofs.lemmas.Slice.Zip.{length-zip}
use Rattle.seal_core.specs.declared.KeyPair.{KeyPair}
use Rattle.levels.specs.declared.level.Sealing.{Sealing}
use Rattle.levels.specs.declared.level.Sealing.TheVariants.{Clear, Des}
use Rattle.levels.specs.declared.rows.LevelRow.{LevelRow}
use Rattle.levels.specs.Rosters.{RosterView}
use Rattle.levels.specs.Keys.{listed, pairs_of}
use Rattle.levels.specs.Kept.{IsRoster, IsComplete}
use Rattle.events.specs.declared.event.Event.{Event}
use Rattle.events.specs.ScriptView.{ScriptView}
use Rattle.events.specs.Scripts.{IsScript, key_lines, line_of}
use Rattle.script.specs.Lines.{Line}
use Rattle.script.specs.Lines as line
use Rattle.script.specs.Spelling.{line_text, ended_text}
use Rattle.script.specs.Text.{lines_of_sealing, line_of_level, line_of_key, line_of_guard, lines_of_keys, line_of_host, line_of_row, line_of_event, script_lines, text_of}
use Rattle.script.specs.Laws.{texts_of, EventsStandAtTheirLines}
use Rattle.script.proofs.Inks.{IsHeld, no_newline}
use Rattle.script.proofs.Found.{get_left, get_right}
use Rattle.script.proofs.Fitting.{script_held}

-- the texts of lines that were written, and nothing behind them
cut_lines : (written : List Line) → AllByRecursion IsHeld written
    → texts_of (flat_map ended_text written) ≡ map line_text written ++ ([] ∷ [])
cut_lines [] fits = refl
cut_lines (first ∷ written) fits =
    ap texts_of (append_assoc (line_text first) (10 ∷ []) (flat_map ended_text written))
    ∙ slice_split_at (λ c. eqb c 10) (line_text first) 10 (flat_map ended_text written)
    (no_newline first fits.0) refl
    ∙ ap (λ (r : List (List ℕ)). line_text first ∷ r) (cut_lines written fits.1)

script_texts : (script : ScriptView) → IsScript script
    → texts_of (text_of script) ≡ map line_text (script_lines script) ++ ([] ∷ [])
unfolding text_of
script_texts script good = cut_lines (script_lines script) (script_held script good)

-- how many lines say the sealing and the key pairs
keys_counted : (roster : RosterView) → IsRoster roster → IsComplete roster
    → length (lines_of_sealing roster.sealing) + length (lines_of_keys roster) ≡ key_lines roster
keys_counted roster good complete = by_sealing roster.sealing refl
  where
    pairs : List (LevelRow × KeyPair)
    pairs = zip roster.levels roster.keys

    guards : List KeyPair
    guards = listed roster.guard

    counted : length (lines_of_keys roster) ≡ length pairs + length guards
    counted =
        omega (
          arith,
          length-append (map line_of_key pairs) (map line_of_guard guards),
          length-map pairs line_of_key,
          length-map guards line_of_guard,
        )

    of_pairs : length (pairs_of roster) ≡ length guards + length roster.keys
    of_pairs = length-append guards roster.keys

    zipped : length pairs ≡ min (length roster.levels) (length roster.keys)
    zipped = length-zip roster.levels roster.keys

    by_sealing : (sealing : Sealing) → roster.sealing ≡ sealing
        → length (lines_of_sealing roster.sealing) + length (lines_of_keys roster)
        ≡ key_lines roster
    by_sealing Clear is =
        let none = good.clear is in
        let keys : length roster.keys ≡ 0 = ap length none.keys in
        let guard : length guards ≡ 0 = ap (λ (g : Option KeyPair). length (listed g)) none.guard in
        rw is (omega (arith, counted, zipped, keys, guard))
    by_sealing Des is =
        let all = complete.keys is in
        rw is (omega (arith, counted, of_pairs, zipped, all.levels))

event_at : (script : ScriptView) → IsScript script → (place : ℕ) (event : Event)
    → slice_get script.events place ≡ Some event
    → slice_get (script_lines script) (line_of script place - 1)
    ≡ Some (line_of_event script.roster event)
event_at script good place event here =
    let roster = script.roster in
    let version = line.Version ∷ [] in
    let sealing = lines_of_sealing roster.sealing in
    let levels = map line_of_level roster.levels in
    let keys = lines_of_keys roster in
    let hosts = map (line_of_host roster) roster.hosts in
    let rows = map (line_of_row roster) script.rows in
    let front = version ++ sealing ++ levels ++ keys ++ hosts ++ rows ++ (line.Begin ∷ []) in
    let said = map (line_of_event roster) script.events in
    let n : length front ≡ length roster.levels + key_lines roster + length roster.hosts + length
    script.rows + 2 =
    omega (
      arith,
      length-append (version ++ sealing ++ levels ++ keys ++ hosts ++ rows) (line.Begin ∷ []),
      length-append (version ++ sealing ++ levels ++ keys ++ hosts) rows,
      length-append (version ++ sealing ++ levels ++ keys) hosts,
      length-append (version ++ sealing ++ levels) keys,
      length-append (version ++ sealing) levels,
      length-append version sealing,
      length-map roster.levels line_of_level,
      length-map roster.hosts (line_of_host roster),
      length-map script.rows (line_of_row roster),
      keys_counted roster good.roster good.complete,
    ) in
    let number : line_of script place - 1 ≡ length front + place = omega arith in
    let at : slice_get said place ≡ Some (line_of_event roster event) =
    slice_get-map (line_of_event roster) script.events place
    ∙ ap (λ (o : Option Event). option_map (line_of_event roster) o) here in
    ap (slice_get ((front ++ said) ++ line.End ∷ [])) number
    ∙ get_left (front ++ said) (line.End ∷ []) (length front + place) (line_of_event roster event)
    (get_right front said place ∙ at)

pub events_stand : EventsStandAtTheirLines
events_stand script good place event here =
    let all = script_lines script in
    let number = line_of script place - 1 in
    let text : slice_get (map line_text all) number
    ≡ Some (line_text (line_of_event script.roster event)) =
    slice_get-map line_text all number
    ∙ ap (λ (o : Option Line). option_map line_text o)
    (event_at script good place event here) in
    ap (λ (texts : List (List ℕ)). slice_get texts number) (script_texts script good)
    ∙ get_left (map line_text all) ([] ∷ []) number (line_text (line_of_event script.roster event))
    text
