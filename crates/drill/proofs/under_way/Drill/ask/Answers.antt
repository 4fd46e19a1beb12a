use Rattle.std.proofs.Common.{◌≡◌, ap, ◌∙◌}
use Rattle.drill.specs.declared.under_way.Drill.{Drill}
use Rattle.drill.specs.Rosters.{drill_roster}
use Rattle.drill.proofs.Parties.{ask_named, host_known, manager_known, carry_named}
use Rattle.drill.proofs.under_way.Drill.ask.Goals as goal

pub add-requires-clause-named : goal.add-requires-clause-named
add-requires-clause-named c =
    ask_named _ c.args.step _ c.requires.roster c.requires.step (c.in_ok-call.ensures ∙ c.in_ok-call_of.ensures)

pub add-requires-2-clause-named : goal.add-requires-2-clause-named
add-requires-2-clause-named c =
    let roster : c.add.new.self.script.roster ≡ drill_roster =
    ap (λ (drill : Drill). drill.script.roster) c.in_ok-add.ensures ∙ c.requires.roster in
    carry_named _ _ _ _ _ c.carry.ensures roster (host_known c.args.step.host c.requires.step.host)
    (manager_known c.home_of.result.0 c.home_of.ensures.within)

pub add-requires-3-clause-named : goal.add-requires-3-clause-named
add-requires-3-clause-named c =
    let roster : c.add-2.new.self.script.roster ≡ drill_roster =
    ap (λ (drill : Drill). drill.script.roster) c.in_ok-add-2.ensures
    ∙ ap (λ (drill : Drill). drill.script.roster) c.in_ok-add.ensures ∙ c.requires.roster in
    carry_named _ _ _ _ _ c.carry-2.ensures roster (manager_known c.home_of.result.0 c.home_of.ensures.within)
    (host_known c.args.step.host c.requires.step.host)
