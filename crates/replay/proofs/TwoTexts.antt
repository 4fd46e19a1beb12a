-- Two scripts in one input.
use Rattle.std.proofs.Common.{◌≡◌, ◌≢◌, ℕ, ◌+◌, ◌-◌, ◌<◌, ◌≤◌, List, [], ◌∷◌, ◌++◌, length, take, drop, get_or, ◌⊎◌, inl, inr, refl, sym, ◌∙◌, ap, subst, append_assoc, append-nil, length-append, arith}
use Rattle.std.specs.Prelude.{Option, Some, None, codes, Err}
use Rattle.std.specs.List.{AllByRecursion, flat_map, slice_get}
use Rattle.std.specs.Option.{option_map}
use Rattle.std.proofs.lemmas.Option.{slice_get_cases}
use Rattle.std.proofs.lemmas.List.{take-append-drop, drop_more, take_rest}
use Rattle.std.proofs.lemmas.Grind.{flat_map-append}
use Rattle.levels.specs.declared.level.Level.{Level}
use Rattle.levels.specs.declared.rows.LevelRow.{LevelRow}
use Rattle.levels.specs.declared.level.Sealing.{Sealing}
use Rattle.levels.specs.declared.level.Sealing.TheVariants.{Clear, Des}
use Rattle.levels.specs.Keys.{listed, pairs_of}
use Rattle.levels.specs.declared.level.Partition.{Partition}
use Rattle.levels.specs.Rosters.{RosterView, level_named, level_at}
use Rattle.events.specs.ScriptView.{ScriptView}
use Rattle.events.specs.Scripts.{IsScript, line_of, key_lines_under}
use Rattle.script.specs.declared.read.TheConstants.{TEXT_LIMIT}
use Rattle.script.specs.declared.refusal.Refusal.{Refusal}
use Rattle.script.specs.declared.refusal.ScriptRefused.{ScriptRefused}
use Rattle.script.specs.declared.refusal.ScriptRefused.TheVariants as stop
use Rattle.script.specs.Lines.{Line}
use Rattle.script.specs.Spelling.{line_text, ended_text}
use Rattle.script.specs.Answers.{AnswersText}
use Rattle.script.specs.Reasons.{FirstRefusal, IsScriptOf}
use Rattle.machine.specs.FalseBytes.{NoneFalse}
use Rattle.machine.specs.Low.{low}
use Rattle.engine.specs.ReportView.{ReportView}
use Rattle.engine.specs.Reports.{StopsAt}
use Rattle.two_worlds.specs.declared.comparing.Comparison.{Comparison}
use Rattle.two_worlds.specs.declared.comparing.Comparison.TheVariants.{Apart}
use Rattle.two_worlds.specs.Comparing.{AreApartAt, Compares}
use Rattle.replay.specs.declared.command.Command.TheVariants.{Twin}
use Rattle.replay.specs.declared.status.Status.{Status}
use Rattle.replay.specs.declared.status.Status.TheVariants.{Fine, Refused, Opened}
use Rattle.replay.specs.declared.twins.Twins.{Twins}
use Rattle.replay.specs.Lines.{refused_line, no_level, opened_line, apart_line}
use Rattle.replay.specs.Twins.{IsOneLine, IsOtherLine, ended, IsCut, behind_end, without_end, line_count, below, level_of_name, alike_text, DueForScripts, unnamed, apart, opened_first, opened_second, alike, DueForTwins, first_refused, second_refused, compared}
use Rattle.replay.specs.Due.{twins}
use Rattle.replay.specs.inside.Owing.{IsOwedFor, IsStop}
use Rattle.replay.specs.inside.Reading.{IsOwedForScripts, ReadsTwins, stop_below, HasLine}
use Rattle.replay.proofs.Owing.{owes_stop}

-- ---- the cut

-- a newline stands at place i
pub line_cut : (text : List ℕ) (i : ℕ) → i < length text → get_or text i 0 ≡ 10
    → text ≡ take i text ++ 10 ∷ take (length text - (i + 1)) (drop (i + 1) text)
line_cut text i less is =
    sym (take-append-drop i text) ∙ ap (λ (t : List ℕ). take i text ++ t) (drop_more text i 0 less
    ∙ ap (λ (c : ℕ). c ∷ drop (i + 1) text) is ∙ ap (λ (t : List ℕ). 10 ∷ t) (sym (take_rest text (i + 1))))

all_more : {A : Type 0} (P : A → Type 0) (xs : List A) (x : A) → AllByRecursion P xs → P x
    → AllByRecursion P (xs ++ x ∷ [])
all_more P [] x all own = (own, tt)
all_more P (y ∷ xs) x all own = (all.0, all_more P xs x all.1 own)

-- some lines of an input, none of which is `end`, and what stands behind them
pub record StandsBehind (input rest : List ℕ) : Type 0 where
  pub above : List (List ℕ)
  pub others : AllByRecursion IsOtherLine above
  pub spelled : input ≡ ended above ++ rest

pub behind_none : (input : List ℕ) → StandsBehind input input
behind_none input = record { above = []; others = tt; spelled = refl }

ended_more : (above : List (List ℕ)) (line : List ℕ) → ended (above ++ line ∷ []) ≡ ended above ++ (line ++ 10 ∷ [])
ended_more above line =
    let f = λ (text : List ℕ). text ++ 10 ∷ [] in
    flat_map-append f above (line ∷ []) ∙ ap (λ (t : List ℕ). ended above ++ t) (append-nil (f line))

-- one line more
pub behind_more : (input rest line behind : List ℕ) → StandsBehind input rest → rest ≡ line ++ 10 ∷ behind
    → IsOneLine line → line ≢ codes "end" → StandsBehind input behind
behind_more input rest line behind so_far is one other = record {
  above = so_far.above ++ line ∷ [];
  others = all_more IsOtherLine so_far.above line so_far.others (record { one = one; other = other });
  spelled = so_far.spelled ∙ ap (λ (t : List ℕ). ended so_far.above ++ t) is
      ∙ ap (λ (t : List ℕ). ended so_far.above ++ t) (sym (append_assoc line (10 ∷ []) behind))
      ∙ sym (append_assoc (ended so_far.above) (line ++ 10 ∷ []) behind)
      ∙ ap (λ (t : List ℕ). t ++ behind) (sym (ended_more so_far.above line));
}

-- the line `end` is there
pub cut_behind : (input rest line behind first second : List ℕ) → StandsBehind input rest
    → rest ≡ line ++ 10 ∷ behind → line ≡ codes "end" → input ≡ first ++ second
    → length first ≡ length input - length behind → IsCut input first second
cut_behind input rest line behind first second so_far is end parts long =
    let above = ended so_far.above in
    let own = above ++ codes "end" ++ 10 ∷ [] in
    let spelled : input ≡ own ++ behind = so_far.spelled
    ∙ ap (λ (t : List ℕ). above ++ t) (is ∙ ap (λ (t : List ℕ). t ++ 10 ∷ behind) end)
    ∙ sym (append_assoc above (codes "end") (10 ∷ behind))
    ∙ sym (append_assoc (above ++ codes "end") (10 ∷ []) behind) in
    let count : length first ≡ length own =
    omega (arith, long, ap length spelled, length-append own behind) in
    let same = parts_same first own second behind (sym parts ∙ spelled) count in
    behind_end so_far.above first second so_far.others same parts
  where
    parts_same : (xs ys more other : List ℕ) → xs ++ more ≡ ys ++ other → length xs ≡ length ys → xs ≡ ys
    parts_same [] [] more other e l = refl
    parts_same [] (y ∷ ys) more other e l = absurd (omega arith)
    parts_same (x ∷ xs) [] more other e l = absurd (omega arith)
    parts_same (x ∷ xs) (y ∷ ys) more other e l =
        let head : x ≡ y = cc in
        let tail : xs ++ more ≡ ys ++ other = cc in
        let rest = parts_same xs ys more other tail (omega arith) in
        cc

-- no line `end` is there
pub cut_nowhere : (input rest first second : List ℕ) → StandsBehind input rest → IsOneLine rest
    → input ≡ first ++ second → length first ≡ length input → IsCut input first second
cut_nowhere input rest first second so_far one parts long =
    let none : second ≡ [] = nothing second (omega (arith, ap length parts, length-append first second, long)) in
    let all : first ≡ input = sym (append-nil first) ∙ ap (λ (t : List ℕ). first ++ t) (sym none) ∙ sym parts in
    subst (λ (t : List ℕ). IsCut input t second) (sym all)
    (subst (λ (t : List ℕ). IsCut input input t) (sym none)
    (without_end so_far.above rest so_far.others one so_far.spelled))
  where
    nothing : (xs : List ℕ) → length xs ≡ 0 → xs ≡ []
    nothing [] l = refl
    nothing (x ∷ xs) l = absurd (omega arith)

pub cut_parts : (input first second : List ℕ) → IsCut input first second → input ≡ first ++ second
cut_parts input first second (behind_end above own rest others is parts) = parts
cut_parts input first second (without_end lines rest others one spelled) = sym (append-nil input)

pub first_shorter : (input first second : List ℕ) → IsCut input first second → length first ≤ length input
first_shorter input first second cut =
    omega (arith, ap length (cut_parts input first second cut), length-append first second)

pub second_shorter : (input first second : List ℕ) → IsCut input first second → length second ≤ length input
second_shorter input first second cut =
    omega (arith, ap length (cut_parts input first second cut), length-append first second)

-- ---- the lines of refusals and of false bytes

lines_fit : (lines : List Line) → length lines ≤ length (flat_map ended_text lines)
lines_fit [] = omega arith
lines_fit (first ∷ lines) =
    let own = length-append (line_text first) (10 ∷ []) in
    let both = length-append (ended_text first) (flat_map ended_text lines) in
    omega (arith, lines_fit lines, own, both)

refused_within : (bytes : List ℕ) (refusal : Refusal) → length bytes ≤ TEXT_LIMIT → FirstRefusal bytes refusal
    → refusal.line ≤ TEXT_LIMIT + 1
refused_within bytes refusal short (inl h) = absurd (omega (arith, h.0))
refused_within bytes refusal short (inr h) =
    omega (arith, h.0, h.3, lines_fit h.1, ap length h.4.spelled, length-append (flat_map ended_text h.1) h.2)

pub stop_has_line : (bytes : List ℕ) (why : ScriptRefused) → length bytes ≤ TEXT_LIMIT → AnswersText bytes (Err why)
    → HasLine why
stop_has_line bytes (stop.Refused refusal) short h = refused_within bytes refusal short h
stop_has_line bytes stop.OutOfMemory short h = tt

key_lines_few : (sealing : Sealing) (pairs : ℕ) → key_lines_under sealing pairs ≤ pairs + 1
key_lines_few Clear pairs = omega arith
key_lines_few Des pairs = omega arith

pairs_few : (roster : RosterView) → length (pairs_of roster) ≤ length roster.keys + 1
pairs_few roster = omega (arith, length-append (listed roster.guard) roster.keys, few)
  where
    few : length (listed roster.guard) ≤ 1
    few = elim roster.guard as (λ guard. length (listed guard) ≤ 1) [ None ↦ omega arith | Some pair ↦ omega arith ]

-- an event stands in one of the first 400,000 lines
pub line_of_within : (script : ScriptView) (event : ℕ) → IsScript script → event < length script.events
    → line_of script event ≤ 400000
line_of_within script event is less =
    omega (
      arith,
      key_lines_few script.roster.sealing (length (pairs_of script.roster)),
      pairs_few script.roster,
      is.roster.level_room,
      is.roster.key_room,
      is.roster.host_room,
      is.row_room,
      is.room,
    )

-- ---- what is due

-- what is due for two texts of an input is owed for it
owes_twins : (bytes first second name : List ℕ) (status : Status) (text : List ℕ) (report : Option ReportView)
    → length bytes ≤ TEXT_LIMIT → IsCut bytes first second → DueForTwins name first second status text
    → report ≡ None → IsOwedFor bytes (Twin name) status text report
owes_twins bytes first second name status text report short cut due none = record {
  due = twins name first second status text short cut due;
  kept = none;
}

-- the first text is no script
pub first_stops : (bytes first second : List ℕ) (why : ScriptRefused) → length bytes ≤ TEXT_LIMIT
    → IsCut bytes first second → AnswersText first (Err why) → ReadsTwins bytes (Err why)
first_stops bytes first second (stop.Refused refusal) short cut h = λ name.
    owes_twins bytes first second name (Refused refusal) (refused_line refusal) None short cut
    (first_refused refusal h) refl
first_stops bytes first second stop.OutOfMemory short cut h = tt

-- the second text is none
pub second_stops : (bytes first second : List ℕ) (a : ScriptView) (above : ℕ) (why : ScriptRefused)
    → length bytes ≤ TEXT_LIMIT → IsCut bytes first second → IsScriptOf first a → above ≡ line_count first
    → AnswersText second (Err why) → ReadsTwins bytes (Err (stop_below above why))
second_stops bytes first second a above (stop.Refused refusal) short cut own same h = λ name.
    let there = below (line_count first) refusal in
    subst (λ (n : ℕ). IsOwedFor bytes (Twin name) (Refused (below n refusal)) (refused_line (below n refusal)) None)
    (sym same)
    (owes_twins bytes first second name (Refused there) (refused_line there) None short cut
    (second_refused refusal (a, own) h) refl)
second_stops bytes first second a above stop.OutOfMemory short cut own same h = tt

-- both are scripts
pub both_read : (bytes first second : List ℕ) (read : Twins) → length bytes ≤ TEXT_LIMIT
    → IsCut bytes first second → IsScriptOf first read.first → IsScriptOf second read.second
    → read.above ≡ line_count first → (name : List ℕ) (status : Status) (text : List ℕ) (report : Option ReportView)
    → IsOwedForScripts name read status text report → IsOwedFor bytes (Twin name) status text report
both_read bytes first second read short cut own other same name status text report owed =
    owes_twins bytes first second name status text report short cut
    (compared read.first read.second status text own other
    (subst (λ (n : ℕ). DueForScripts name n read.first read.second status text) same owed.due)) owed.none

-- where a reading of two scripts stopped, its refusal is owed
pub refuses_twins : (bytes name : List ℕ) (why : ScriptRefused) (status : Status) (text : List ℕ)
    (report : Option ReportView) → ReadsTwins bytes (Err why) → IsStop why status text report
    → IsOwedFor bytes (Twin name) status text report
refuses_twins bytes name why status text report reads h =
    owes_stop bytes (Twin name) why status text report
    (λ refusal is. (subst (λ (w : ScriptRefused). ReadsTwins bytes (Err w)) is reads) name) h

-- ---- what is due for two scripts

owes_scripts : (name : List ℕ) (both : Twins) (status status' : Status) (text text' : List ℕ)
    (report : Option ReportView) → DueForScripts name both.above both.first both.second status text
    → status' ≡ status → text' ≡ text → report ≡ None → IsOwedForScripts name both status' text' report
owes_scripts name both status status' text text' report due is written none = record {
  due = subst (λ (s : Status). DueForScripts name both.above both.first both.second s text') (sym is)
      (subst (λ (t : List ℕ). DueForScripts name both.above both.first both.second status t) (sym written) due);
  none = none;
}

-- the first has no level of the name
pub owes_unnamed : (name : List ℕ) (both : Twins) (status : Status) (text : List ℕ) (report : Option ReportView)
    → level_named both.first.roster name ≡ None → status ≡ Refused no_level → text ≡ refused_line no_level
    → report ≡ None → IsOwedForScripts name both status text report
owes_unnamed name both status text report none is written kept =
    owes_scripts name both (Refused no_level) status (refused_line no_level) text report
    (unnamed (ap (level_at both.first.roster) none)) is written kept

-- they are apart
owes_apart : (name : List ℕ) (both : Twins) (level : Level) (place : ℕ) (status : Status) (text : List ℕ)
    (report : Option ReportView) → level_of_name both.first.roster name ≡ Some level
    → AreApartAt level both.first both.second place → status ≡ Fine → text ≡ apart_line place
    → report ≡ None → IsOwedForScripts name both status text report
owes_apart name both level place status text report named at is written kept =
    owes_scripts name both Fine status (apart_line place) text report (apart level place named at) is written kept

level_there : (roster : RosterView) (partition : Partition) → partition.0 < length roster.levels
    → (level : Level) × (level_at roster (Some partition) ≡ Some level)
level_there roster partition less = by (slice_get_cases roster.levels partition.0).1
  where
    by : ((x : LevelRow) × (partition.0 < length roster.levels) × (slice_get roster.levels partition.0 ≡ Some x)
        × (get_or roster.levels partition.0 x ≡ x))
        ⊎ ((length roster.levels ≤ partition.0) × (slice_get roster.levels partition.0 ≡ None))
        → (level : Level) × (level_at roster (Some partition) ≡ Some level)
    by (inl h) = (h.0.level, ap (option_map (λ (row : LevelRow). row.level)) h.2)
    by (inr h) = absurd (omega (arith, h.0))

-- the same by what a comparison answers at the level's partition
pub owes_apart_at : (name : List ℕ) (both : Twins) (read : RosterView) (partition : Partition) (answer : Comparison)
    (place : ℕ) (status : Status) (text : List ℕ) (report : Option ReportView) → read ≡ both.first.roster
    → level_named read name ≡ Some partition → partition.0 < length read.levels
    → ((own : Level) → level_at both.first.roster (Some partition) ≡ Some own
    → Compares own both.first both.second answer)
    → answer ≡ Apart place → status ≡ Fine → text ≡ apart_line place → report ≡ None
    → IsOwedForScripts name both status text report
owes_apart_at name both read partition answer place status text report same named within compares is ended written
    kept =
    let roster = both.first.roster in
    let there = level_there roster partition
    (subst (λ (r : RosterView). partition.0 < length r.levels) same within) in
    let level_is : level_of_name roster name ≡ Some there.0 =
    ap (level_at roster) (subst (λ (r : RosterView). level_named r name ≡ Some partition) same named) ∙ there.1 in
    owes_apart name both there.0 place status text report level_is
    (subst (λ (c : Comparison). Compares there.0 both.first both.second c) is (compares there.0 there.1))
    ended written kept

-- false bytes opened in the first
pub owes_first : (name : List ℕ) (both : Twins) (level : Level) (number : ℕ) (status : Status) (text : List ℕ)
    (report : Option ReportView) → level_of_name both.first.roster name ≡ Some level
    → low level both.first ≡ low level both.second → StopsAt both.first number
    → status ≡ Opened number → text ≡ opened_line number → report ≡ None
    → IsOwedForScripts name both status text report
owes_first name both level number status text report named same stops is written kept =
    owes_scripts name both (Opened number) status (opened_line number) text report
    (subst (λ (n : ℕ). DueForScripts name both.above both.first both.second (Opened n) (opened_line n))
    (sym stops.there) (opened_first level stops.event named same stops.first)) is written kept

-- false bytes opened in the second
pub owes_second : (name : List ℕ) (both : Twins) (level : Level) (number there : ℕ) (status : Status)
    (text : List ℕ) (report : Option ReportView) → level_of_name both.first.roster name ≡ Some level
    → low level both.first ≡ low level both.second → NoneFalse both.first (length both.first.events)
    → StopsAt both.second number → there ≡ both.above + number
    → status ≡ Opened there → text ≡ opened_line there → report ≡ None
    → IsOwedForScripts name both status text report
owes_second name both level number there status text report named same none stops sum is written kept =
    owes_scripts name both (Opened there) status (opened_line there) text report
    (subst (λ (n : ℕ). DueForScripts name both.above both.first both.second (Opened n) (opened_line n))
    (sym (sum ∙ ap (λ (n : ℕ). both.above + n) stops.there))
    (opened_second level stops.event named same none stops.first)) is written kept

-- they have one low part, and no false bytes opened
pub owes_alike : (name : List ℕ) (both : Twins) (level : Level) (text : List ℕ)
    → level_of_name both.first.roster name ≡ Some level → low level both.first ≡ low level both.second
    → NoneFalse both.first (length both.first.events) → NoneFalse both.second (length both.second.events)
    → text ≡ alike_text level both.first → IsOwedForScripts name both Fine text None
owes_alike name both level text named same first second written =
    owes_scripts name both Fine Fine (alike_text level both.first) text None
    (alike level named same first second) refl written refl
