-- The single lines that are written.
use Rattle.std.specs.Prelude.{ℕ, List, [], ◌∷◌, length, codes}
use Rattle.std.specs.Fmt.{decimal}
use Rattle.events.specs.ScriptView.{ScriptView}
use Rattle.script.specs.declared.refusal.Refusal.{Refusal}
use Rattle.script.specs.declared.refusal.Reason.{Reason}
use Rattle.script.specs.declared.refusal.Reason.TheVariants as reason
use Rattle.machine.specs.Text.{line}

abbrev pub reason_word : Reason → List ℕ
reason_word reason.Form = codes "form"
reason_word reason.Place = codes "place"
reason_word reason.Name = codes "name"
reason_word reason.Twice = codes "twice"
reason_word reason.Many = codes "many"
reason_word reason.Key = codes "key"
reason_word reason.End = codes "end"

abbrev pub refused_line : Refusal → List ℕ
refused_line refusal =
    line (codes "refused" ∷ decimal refusal.line ∷ reason_word refusal.reason ∷ [])

-- the refusal of an input that is too long
abbrev pub too_long : Refusal
too_long = record { line = 0; reason = reason.Many }

-- the refusal of a name that no level has
abbrev pub no_level : Refusal
no_level = record { line = 0; reason = reason.Name }

-- how many levels, hosts, plan rows and events a script has
abbrev pub check_line : ScriptView → List ℕ
check_line script = line
    (codes "ok" ∷ codes "levels" ∷ decimal (length script.roster.levels)
    ∷ codes "hosts" ∷ decimal (length script.roster.hosts)
    ∷ codes "store" ∷ decimal (length script.rows)
    ∷ codes "events" ∷ decimal (length script.events) ∷ [])

-- the line of the input at which false bytes opened
abbrev pub opened_line : ℕ → List ℕ
opened_line number = line (codes "opened" ∷ decimal number ∷ [])

-- the place at which two scripts are apart
abbrev pub apart_line : ℕ → List ℕ
apart_line place = line (codes "apart" ∷ decimal place ∷ [])
