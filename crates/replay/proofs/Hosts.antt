-- What is written for the hosts of a roster, one address after the other.
use Rattle.std.proofs.Common.{◌≡◌, ℕ, zero, suc, ◌+◌, ◌-◌, ◌≤◌, Bool, true, false, List, [], ◌∷◌, ◌++◌, Some, None, refl, sym, ◌∙◌, ap, subst, append-nil, append_assoc, arith}
use Rattle.std.specs.Prelude.{◌<◌, Option, find, ◌==◌, filter, if◌then◌else◌}
use Rattle.std.specs.List.{flat_map, range_with_len}
use Rattle.std.specs.Option.{option_map}
use Rattle.std.proofs.lemmas.Bool.Decides.{nat_tests}
use Rattle.std.proofs.lemmas.Grind.{flat_map-append}
use Rattle.levels.specs.declared.level.Level.{Level}
use Rattle.levels.specs.declared.level.Partition.{Partition}
use Rattle.levels.specs.declared.level.Party.TheVariants.{Host}
use Rattle.levels.specs.declared.rows.HostRow.{HostRow}
use Rattle.levels.specs.Rosters.{RosterView, host_row, partition_of, level_of}
use Rattle.events.specs.ScriptView.{ScriptView}
use Rattle.machine.specs.declared.line.OutLine.{OutLine}
use Rattle.machine.specs.Low.{is_low}
use Rattle.machine.specs.Text.{due_lines, due_to, rows_at, hosts_in_order, text, text_below}
use Rattle.engine.specs.ReportView.{ReportView}
use Rattle.engine.specs.Reports.{lines_of, IsReport}
use Rattle.replay.specs.Summary.{line_of_host, host_lines}
use Rattle.replay.specs.inside.Printing.{at_row, hosts_to, due_below}

abbrev pub row_of : ℕ → Partition → HostRow
row_of address partition = record { address = address; partition = partition }

-- the row that is found has the address
row_found : (rows : List HostRow) (address : ℕ) (partition : Partition)
    → option_map (λ (r : HostRow). r.partition) (find (λ r. r.address == address) rows) ≡ Some partition
    → find (λ r. r.address == address) rows ≡ Some (row_of address partition)
row_found [] address partition h = cc
row_found (row ∷ rows) address partition h = grind (arith, nat_tests, row_found rows address partition)

-- what a report has of a host, with the roster that was read, is what is written for its row
pub reported : (told : RosterView → HostRow → List OutLine → List ℕ) (report : ReportView) (read : RosterView)
    (address : ℕ) (partition : Partition) (lines : List OutLine)
    → IsReport report.script report → address < 256
    → read ≡ report.script.roster → partition_of read (Host address) ≡ Some partition → lines ≡ lines_of report address
    → told read (row_of address partition) lines ≡ at_row (λ row. told report.script.roster row
    (due_lines report.script row.address (level_of report.script.roster (Host row.address))))
    (host_row report.script.roster address)
reported told report read address partition lines reports small same is lines_are =
    let roster = report.script.roster in
    let written = λ (row : HostRow). told roster row
    (due_lines report.script row.address (level_of roster (Host row.address))) in
    let own : partition_of roster (Host address) ≡ Some partition =
    subst (λ (r : RosterView). partition_of r (Host address) ≡ Some partition) same is in
    ap (λ (r : RosterView). told r (row_of address partition) lines) same
    ∙ ap (told roster (row_of address partition)) (lines_are ∙ reports.lines address small)
    ∙ sym (ap (at_row written) (row_found roster.hosts address partition own))

-- a host that no row is found of has nothing
pub not_reported : (written : HostRow → List ℕ) (roster read : RosterView) (address : ℕ) → read ≡ roster
    → partition_of read (Host address) ≡ None → at_row written (host_row roster address) ≡ []
not_reported written roster read address same is = none (host_row roster address)
    (subst (λ (r : RosterView). partition_of r (Host address) ≡ None) same is)
  where
    none : (row : Option HostRow) → option_map (λ (r : HostRow). r.partition) row ≡ None → at_row written row ≡ []
    none None h = refl
    none (Some row) h = absurd cc

-- a row that is found is written as it is
written_of_rows : (written : HostRow → List ℕ) (row : Option HostRow)
    → flat_map written (rows_at row) ≡ at_row written row
written_of_rows written None = refl
written_of_rows written (Some row) = append-nil (written row)

written_along : (written : HostRow → List ℕ) (roster : RosterView) (addresses : List ℕ)
    → flat_map written (flat_map (λ a. rows_at (host_row roster a)) addresses)
    ≡ flat_map (λ a. at_row written (host_row roster a)) addresses
written_along written roster [] = refl
written_along written roster (a ∷ addresses) =
    let rest = flat_map (λ (b : ℕ). rows_at (host_row roster b)) addresses in
    flat_map-append written (rows_at (host_row roster a)) rest
    ∙ ap (λ (t : List ℕ). t ++ flat_map written rest) (written_of_rows written (host_row roster a))
    ∙ ap (λ (t : List ℕ). at_row written (host_row roster a) ++ t) (written_along written roster addresses)

-- all of a text goes to the last address that a host can have
whole : (written : HostRow → List ℕ) (roster : RosterView)
    → hosts_to written roster 250 ≡ flat_map written (hosts_in_order roster)
unfolding hosts_to hosts_in_order
whole written roster = sym (written_along written roster (range_with_len 1 250))

pub text_whole : (script : ScriptView) → hosts_to (due_to script) script.roster 250 ≡ text script
text_whole script = whole (due_to script) script.roster

pub host_lines_whole : (script : ScriptView)
    → hosts_to (line_of_host script) script.roster 250 ≡ host_lines script
host_lines_whole script = whole (line_of_host script) script.roster

-- rows that are left out are written as nothing
kept_rows : (keep : HostRow → Bool) (written : HostRow → List ℕ) (rows : List HostRow)
    → flat_map (λ row. if keep row then written row else []) rows ≡ flat_map written (filter keep rows)
kept_rows keep written [] = refl
kept_rows keep written (row ∷ rows) = by (kept_rows keep written rows) (keep row) refl
  where
    by : flat_map (λ r. if keep r then written r else []) rows ≡ flat_map written (filter keep rows)
        → (b : Bool) → keep row ≡ b
        → flat_map (λ r. if keep r then written r else []) (row ∷ rows) ≡ flat_map written (filter keep (row ∷ rows))
    by more true h = rw h (ap (λ (t : List ℕ). written row ++ t) more)
    by more false h = rw h more

pub text_below_whole : (level : Level) (script : ScriptView)
    → hosts_to (due_below level script) script.roster 250 ≡ text_below level script
text_below_whole level script = whole (due_below level script) script.roster
    ∙ kept_rows (λ (row : HostRow). is_low script.roster level (Host row.address)) (due_to script)
    (hosts_in_order script.roster)

row_address : (rows : List HostRow) (address : ℕ) (row : HostRow) → find (λ r. r.address == address) rows ≡ Some row
    → row.address ≡ address
row_address [] address row h = absurd cc
row_address (first ∷ rows) address row h = grind (arith, nat_tests, row_address rows address row)

either_way : (b : Bool) (text : List ℕ) → text ≡ (if b then text else text)
either_way true text = refl
either_way false text = refl

-- what is due to a row that is found, if its address is at or below a level
due_at_low : (level : Level) (script : ScriptView) (address : ℕ) (found : Option HostRow)
    → host_row script.roster address ≡ found → at_row (due_below level script) found
    ≡ (if is_low script.roster level (Host address) then at_row (due_to script) found else [])
due_at_low level script address None h = either_way (is_low script.roster level (Host address)) []
due_at_low level script address (Some row) h =
    ap (λ a. if is_low script.roster level (Host a) then due_to script row else [])
    (row_address script.roster.hosts address row h)

-- a host that is at or below the level, by the roster that was read
pub low_is_due : (level : Level) (script : ScriptView) (read : RosterView) (address : ℕ) (low : Bool)
    → read ≡ script.roster → low ≡ is_low read level (Host address)
    → at_row (due_below level script) (host_row script.roster address)
    ≡ (if low then at_row (due_to script) (host_row script.roster address) else [])
low_is_due level script read address low same is =
    due_at_low level script address (host_row script.roster address) refl
    ∙ ap (λ (b : Bool). if b then at_row (due_to script) (host_row script.roster address) else [])
    (sym (is ∙ ap (λ (r : RosterView). is_low r level (Host address)) same))

-- ---- one address after the other

range_more : (a n : ℕ) → range_with_len a (suc n) ≡ range_with_len a n ++ (a + n) ∷ []
range_more a zero = ap (λ k. k ∷ []) (let e : a ≡ a + 0 = omega arith in e)
range_more a (suc n) =
    ap (λ t. a ∷ t) (range_more (a + 1) n ∙ ap (λ k. range_with_len (a + 1) n ++ k ∷ [])
    (let e : a + 1 + n ≡ a + suc n = omega arith in e))

pub at_first : (written : HostRow → List ℕ) (roster : RosterView) → hosts_to written roster 0 ≡ []
unfolding hosts_to
at_first written roster = refl

-- one address more
pub one_more_host : (written : HostRow → List ℕ) (roster : RosterView) (n : ℕ)
    → hosts_to written roster (suc n) ≡ hosts_to written roster n ++ at_row written (host_row roster (suc n))
unfolding hosts_to
one_more_host written roster n =
    let f = λ (a : ℕ). at_row written (host_row roster a) in
    let one : 1 + n ≡ suc n = omega arith in
    ap (flat_map f) (range_more 1 n) ∙ flat_map-append f (range_with_len 1 n) ((1 + n) ∷ [])
    ∙ ap (λ (t : List ℕ). flat_map f (range_with_len 1 n) ++ t) (append-nil (f (1 + n)) ∙ ap f one)

-- a step of the loop over the addresses, behind what was written before it
pub host_step : (written : HostRow → List ℕ) (roster : RosterView) (address : ℕ) (start old new : List ℕ)
    → 1 ≤ address → old ≡ start ++ hosts_to written roster (address - 1)
    → new ≡ old ++ at_row written (host_row roster address)
    → new ≡ start ++ hosts_to written roster (address + 1 - 1)
host_step written roster address start old new h before after =
    let one : suc (address - 1) ≡ address = omega arith in
    let next : suc (address - 1) ≡ address + 1 - 1 = omega arith in
    let so_far = hosts_to written roster (address - 1) in
    after ∙ ap (λ (t : List ℕ). t ++ at_row written (host_row roster address)) before
    ∙ append_assoc start so_far (at_row written (host_row roster address))
    ∙ ap (λ a. start ++ (so_far ++ at_row written (host_row roster a))) (sym one)
    ∙ ap (λ (t : List ℕ). start ++ t) (sym (one_more_host written roster (address - 1)))
    ∙ ap (λ a. start ++ hosts_to written roster a) next
