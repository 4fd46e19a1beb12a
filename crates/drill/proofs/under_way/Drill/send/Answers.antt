use Rattle.std.proofs.Common.{◌≡◌, refl, ap, ◌∙◌}
use Rattle.std.specs.Prelude.{slice_index}
use Rattle.levels.specs.declared.level.Party.TheVariants.{Host}
use Rattle.drill.specs.declared.under_way.Drill.{Drill}
use Rattle.drill.specs.Rosters.{drill_roster}
use Rattle.drill.proofs.Parties.{host_known, send_named, carry_named}
use Rattle.drill.proofs.under_way.Drill.send.Goals as goal

pub add-requires-clause-named : goal.add-requires-clause-named
add-requires-clause-named c =
    send_named _ _ _ c.from-message.result c.requires.roster c.requires.step.host c.neighbour_of.ensures.within

pub carry_times-requires-clause-named : goal.carry_times-requires-clause-named
carry_times-requires-clause-named c =
    let roster : c.add.new.self.script.roster ≡ drill_roster =
    ap (λ (drill : Drill). drill.script.roster) c.in_ok-add.ensures ∙ c.requires.roster in
    carry_named _ (Host c.args.step.host) (Host c.neighbour_of.result)
    (slice_index c.args.self.now.sends c.args.step.host) _ refl roster
    (host_known c.args.step.host c.requires.step.host)
    (host_known c.neighbour_of.result c.neighbour_of.ensures.within)
