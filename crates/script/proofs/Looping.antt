-- The loop over the lines, in the words of its code.
use Rattle.std.proofs.Common.{◌≡◌, ℕ, ◌+◌, ◌-◌, ◌<◌, ◌≤◌, true, List, [], ◌∷◌, ◌++◌, length, map, Option, Some, None, Ok, Err, refl, sym, ap, subst, ◌∙◌, arith, inr}
use Rattle.std.specs.List.{AllByRecursion, flat_map}
use Rattle.std.proofs.lemmas.List.{append-nil}
use Rattle.untrusted_store.specs.declared.plan.PlanRow.{PlanRow}
use Rattle.untrusted_store.specs.declared.plan.StoreAction.{StoreAction}
use Rattle.untrusted_store.specs.declared.plan.StoreAction.TheVariants.{Honest, Of, Flip, Gone}
use Rattle.events.specs.declared.event.Event.{Event}
use Rattle.events.specs.ScriptView.{ScriptView}
use Rattle.levels.specs.Rosters.{RosterView}
use Rattle.script.specs.declared.read.TheConstants.{TEXT_LIMIT}
use Rattle.script.specs.declared.stage.Stage.{Stage}
use Rattle.script.specs.declared.refusal.Reason.{Reason}
use Rattle.script.specs.declared.refusal.Stop.{Stop}
use Rattle.script.specs.declared.refusal.Stop.TheVariants as stop
use Rattle.script.specs.Lines.{Line}
use Rattle.script.specs.Spelling.{ended_text}
use Rattle.script.specs.Text.{action_said, lines_of_sealing, line_of_level, lines_of_keys, line_of_host, line_of_row, line_of_event, script_lines, text_of}
use Rattle.script.specs.Ranges.{HasRanges, HasActionRanges}
use Rattle.script.specs.Laws.{IsSaid, IsSpelled}
use Rattle.script.specs.Facts.{Kind, end_line, Facts, facts}
use Rattle.script.specs.Reasons.{IsScriptOf}
use Rattle.script.specs.Answers.{AnswersText}
use Rattle.script.specs.inside.Stages.{seen, after, Steps, Finishes, at_end, at_line}
use Rattle.script.specs.Lines as line
use Rattle.script.proofs.Tools.{all_left, all_right}
use Rattle.script.proofs.Order.{shape, closes}
use Rattle.script.proofs.Free.{free_stand}
use Rattle.script.proofs.Reached.{Reached, parts, goes_on, stops, ends_badly, ended_well}

pub goes_on_by : (bytes : List ℕ) (line : ℕ) (rest behind text : List ℕ) (old : Facts) (new : Stage)
    → 0 < line
    → Reached bytes (line - 1) rest old → parts rest ≡ text ∷ parts behind → Steps old text (Ok new)
    → Reached bytes (line + 1 - 1) behind (seen new)
goes_on_by bytes line rest behind text old new one at cut step =
    let on = goes_on bytes (line - 1) rest text behind old step.0 at cut step.1 step.2 in
    let number : line - 1 + 1 ≡ line + 1 - 1 = omega arith in
    let on' : Reached bytes (line + 1 - 1) behind (after old step.0) =
    subst (λ (k : ℕ). Reached bytes k behind (after old step.0)) number on in
    subst (λ (f : Facts). Reached bytes (line + 1 - 1) behind f) (sym step.3) on'

-- a line that stops the reading is the first refused one
pub stops_by : (bytes : List ℕ) (line : ℕ) (rest behind text : List ℕ) (old : Facts) (why : Stop)
    → length bytes ≤ TEXT_LIMIT → 0 < line
    → Reached bytes (line - 1) rest old → parts rest ≡ text ∷ parts behind
    → Steps old text (Err why) → AnswersText bytes (Err (at_line line why))
stops_by bytes line rest behind text old (stop.Refused reason) short one at cut e =
    inr (
      short,
      at.lines,
      rest,
      omega (arith, at.counted),
      at.begins,
      stops bytes (line - 1) rest text behind old reason at cut e,
    )
stops_by bytes line rest behind text old stop.OutOfMemory short one at cut e = tt

pub ends_badly_by : (bytes : List ℕ) (line : ℕ) (rest : List ℕ) (old : Facts) (reason : Reason)
    → length bytes ≤ TEXT_LIMIT → 0 < line
    → Reached bytes (line - 1) rest old → parts rest ≡ rest ∷ []
    → at_end old.ended rest ≡ Some reason
    → AnswersText bytes (Err (at_line line (stop.Refused reason)))
ends_badly_by bytes line rest old reason short one at whole e =
    inr (
      short,
      at.lines,
      rest,
      omega (arith, at.counted),
      at.begins,
      ends_badly bytes (line - 1) rest old reason at whole e,
    )

-- ---- whole texts

-- only an `end` closes a text
closed : (last : Option Kind) → closes last ≡ true → last ≡ Some end_line
closed None e = absurd cc
closed (Some end_line) e = refl
closed (Some kind) e = absurd cc

-- the lines of a clean text are those of its script
pub whole_lines : (bytes : List ℕ) (script : ScriptView) (of : IsScriptOf bytes script)
    → of.lines ≡ script_lines script
whole_lines bytes script of =
    let said = facts of.lines in
    let stand = free_stand of.lines of.read.free in
    let last : said.last ≡ Some end_line = closed said.last (sym stand.order.ended ∙ of.ended) in
    subst (λ (l : Option Kind). of.lines ≡ shape l said.roster said.rows said.events) last
    stand.order.shaped ∙ ap script_lines (sym of.says)

pub whole_text : (bytes : List ℕ) (script : ScriptView) → IsScriptOf bytes script
    → bytes ≡ text_of script
unfolding text_of
whole_text bytes script of =
    of.read.spelled ∙ append-nil (flat_map ended_text of.lines)
    ∙ ap (flat_map ended_text) (whole_lines bytes script of)

-- ---- a plan that lines say

said_action : (roster : RosterView) (action : StoreAction)
    → HasActionRanges (action_said roster action) → IsSaid action
said_action roster Honest fits = tt
said_action roster (Of level version) fits = fits.1
said_action roster (Flip offset xor) fits = omega (arith, fits.1.0)
said_action roster Gone fits = tt

said_rows : (roster : RosterView) (rows : List PlanRow)
    → AllByRecursion HasRanges (map (line_of_row roster) rows)
    → AllByRecursion (λ (row : PlanRow). IsSaid row.action) rows
said_rows roster [] all = tt
said_rows roster (row ∷ rows) all =
    (said_action roster row.action all.0.1, said_rows roster rows all.1)

said_plan : (script : ScriptView) → AllByRecursion HasRanges (script_lines script)
    → IsSpelled script
said_plan script all =
    let roster = script.roster in
    let above = (line.Version ∷ []) ++ lines_of_sealing roster.sealing
    ++ map line_of_level roster.levels ++ lines_of_keys roster
    ++ map (line_of_host roster) roster.hosts in
    let rows = map (line_of_row roster) script.rows in
    let begin = line.Begin ∷ [] in
    let events = map (line_of_event roster) script.events in
    said_rows roster script.rows (all_right HasRanges above rows
    (all_left HasRanges (above ++ rows) begin
    (all_left HasRanges (above ++ rows ++ begin) events
    (all_left HasRanges (above ++ rows ++ begin ++ events) (line.End ∷ []) all))))

-- lines say the plan of a script that a text says
pub whole_plan : (bytes : List ℕ) (script : ScriptView) → IsScriptOf bytes script
    → IsSpelled script
whole_plan bytes script of =
    said_plan script (subst (λ (ls : List Line). AllByRecursion HasRanges ls)
    (whole_lines bytes script of) of.read.ranges)

abbrev pub said_by : Facts → ScriptView
said_by said = record { roster = said.roster; rows = said.rows; events = said.events }

pub ends_well : (bytes : List ℕ) (count : ℕ) (rest : List ℕ) (old : Facts)
    → length bytes ≤ TEXT_LIMIT → Reached bytes count rest old
    → at_end old.ended rest ≡ None → IsScriptOf bytes (said_by old)
ends_well bytes count rest old short at fine =
    let well = ended_well old.ended rest fine in
    record {
      short = short;
      lines = at.lines;
      read = (rw (← well.1) at.begins);
      ended = ap (λ (f : Facts). f.ended) at.stand.says ∙ well.0;
      says = ap said_by (sym at.stand.says);
    }

pub finishes_by : (bytes : List ℕ) (line : ℕ) (rest : List ℕ) (old : Facts) (script : ScriptView)
    → length bytes ≤ TEXT_LIMIT
    → Reached bytes (line - 1) rest old → Finishes old rest (Ok script) → IsScriptOf bytes script
finishes_by bytes line rest old script short at e =
    let same : script ≡ said_by old =
    ap (λ (r : RosterView). record script { roster = r }) e.1
    ∙ ap (λ (rows : List PlanRow). record script { roster = old.roster; rows = rows }) e.2
    ∙ ap (λ (es : List Event). record { roster = old.roster; rows = old.rows; events = es }) e.3 in
    subst (IsScriptOf bytes) (sym same) (ends_well bytes (line - 1) rest old short at e.0)
