use Rattle.std.proofs.Common.{[], length, ap, sym, subst, ◌∙◌}
use Rattle.std.proofs.lemmas.List.{length-map}
use Rattle.levels.specs.declared.rows.LevelRow.{LevelRow}
use Rattle.levels.specs.Rosters.{RosterView}
use Rattle.untrusted_store.specs.Planned.{PlannedView}
use Rattle.file_manager.specs.Standing as manager
use Rattle.planned_files.specs.Standing.{StandsFor}
use Rattle.planned_files.proofs.Following.{stands_first}
use Rattle.planned_files.proofs.files.PlannedFiles.open.Goals as goal

pub returns-clause-stands : goal.returns-clause-stands
returns-clause-stands g c m roster guard rows =
    let stands = subst (λ (r : RosterView). manager.StandsFor r c.in_ok-manager.manager []) (sym roster)
    c.in_ok-manager.ensures.stands in
    subst (λ (s : PlannedView). StandsFor m (record { manager = c.in_ok-manager.manager; store = s }) [])
    (sym c.in_ok-store.ensures)
    (stands_first m c.in_ok-manager.manager c.args.rows.now stands (c.in_ok-manager.ensures.keys ∙ sym guard)
    (sym rows))

pub returns-clause-levels : goal.returns-clause-levels
returns-clause-levels g c =
    ap length c.in_ok-manager.ensures.stands.levels
    ∙ length-map c.args.roster.now.levels (λ (row : LevelRow). row.level)
