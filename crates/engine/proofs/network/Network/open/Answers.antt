use Rattle.std.proofs.Common.{sym, ap, subst, ◌∙◌}
use Rattle.levels.specs.Keys.{guard_of}
use Rattle.machine.specs.Setup.{setup_of}
use Rattle.engine.specs.inside.Standing.{SetupOf}
use Rattle.engine.proofs.Following.{setup_is, same_some}
use Rattle.engine.proofs.network.Network.open.Goals as goal

pub returns : goal.returns
returns g c sealing =
    let script = c.args.script.now in
    let m = setup_of script in
    let roster = c.roster-roster.ensures.roster in
    let is = c.roster-roster.ensures.kept in
    record {
      desks_stand = c.in_ok-desks.ensures m (subst (SetupOf m g.S.Seal.sealed_text) (sym roster)
          (setup_is c.script_laws.ensures script g.S.Seal.sealed_text is sealing));
      files_stand = c.in_ok-files.ensures.stands m (sym roster)
          (same_some m.guard c.guard_keys.result
          (sym (c.script_laws.ensures.guard script is)
          ∙ ap guard_of (sym roster) ∙ c.guard_keys.ensures)
          ∙ sym c.open-guarantor.ensures)
          (sym c.rows.ensures);
    }
