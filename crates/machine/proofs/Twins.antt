-- The text of the hosts at or below a level, in two scripts with one low part.
use Rattle.std.proofs.Common.{◌≡◌, Bool, List, [], ◌∷◌, ◌++◌, ℕ, true, Option, Some, None, refl, sym, ap, ap₂, ◌∙◌, inl, inr}
use Rattle.std.specs.Prelude.{filter}
use Rattle.std.specs.List.{flat_map}
use Rattle.levels.specs.declared.level.Level.{Level}
use Rattle.levels.specs.declared.level.Party.TheVariants.{Host}
use Rattle.levels.specs.declared.rows.HostRow.{HostRow}
use Rattle.levels.specs.Rosters.{RosterView, level_of}
use Rattle.machine.specs.declared.line.OutLine.{OutLine}
use Rattle.events.specs.ScriptView.{ScriptView}
use Rattle.machine.specs.Low.{is_within, is_low, low}
use Rattle.machine.specs.Machine.{told}
use Rattle.machine.specs.Text.{due_lines, due_to, host_text, hosts_in_order, text_below}
use Rattle.machine.proofs.Basics.{bool_cases}
use Rattle.machine.proofs.Levels.{low_of_low}

due_lines_alike : (a b : ScriptView) (level : Level) (address : ℕ) (o : Option Level)
    → low level a ≡ low level b → is_within o level ≡ true
    → due_lines a address o ≡ due_lines b address o
due_lines_alike a b level address None same within = cc
due_lines_alike a b level address (Some own) same within =
    ap (λ (x : ScriptView). told x (Host address))
    (sym (low_of_low a own level within) ∙ ap (low own) same ∙ low_of_low b own level within)

abbrev is_low_row : RosterView → Level → HostRow → Bool
is_low_row roster level row = is_low roster level (Host row.address)

rows_alike : (a b : ScriptView) (level : Level) (rows : List HostRow)
    → a.roster ≡ b.roster → low level a ≡ low level b
    → flat_map (due_to a) (filter (is_low_row a.roster level) rows)
    ≡ flat_map (due_to b) (filter (is_low_row a.roster level) rows)
rows_alike a b level [] one_roster same = refl
rows_alike a b level (row ∷ rows) one_roster same =
    let more = rows_alike a b level rows one_roster same in
    elim (bool_cases (is_low_row a.roster level row)) [
      | inl within ↦ rw within (ap₂ (λ (x y : List ℕ). x ++ y)
          (ap₂ (λ (r : RosterView) (ls : List OutLine). host_text r row ls) one_roster
          (due_lines_alike a b level row.address (level_of a.roster (Host row.address)) same within
          ∙ ap (λ (r : RosterView). due_lines b row.address (level_of r (Host row.address)))
          one_roster))
          more)
      | inr above ↦ rw above more
    ]

-- scripts with one roster and one low part have one text for the hosts at or below the level
pub text_alike : (level : Level) (a b : ScriptView) → a.roster ≡ b.roster
    → low level a ≡ low level b → text_below level a ≡ text_below level b
text_alike level a b one_roster same =
    rows_alike a b level (hosts_in_order a.roster) one_roster same
    ∙ ap (λ (r : RosterView). flat_map (due_to b) (filter (is_low_row r level) (hosts_in_order r)))
    one_roster
