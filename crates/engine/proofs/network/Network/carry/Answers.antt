use Rattle.std.proofs.Common.{sym, subst, ◌∙◌, rules}
use Rattle.std.proofs.lemmas.Result.{on_ok_weaker}
use Rattle.levels.specs.declared.level.Party.TheVariants.{Host}
use Rattle.events.specs.declared.event.Event.TheVariants.{Carry}
use Rattle.planned_files.specs.Standing as planned
use Rattle.machine.specs.Machine.{state}
use Rattle.engine.specs.Slots.{HasSlot}
use Rattle.engine.specs.inside.Standing.{Readied}
use Rattle.engine.proofs.Joining.{carry_joins, found_ready}
use Rattle.engine.proofs.Something.{carried_something}
use Rattle.engine.proofs.network.Network.carry.Goals as goal

pub returns : goal.returns
returns g c =
    let stream = c.args.stream in
    let j = c.args.message in
    let has : HasSlot stream.from = search rules in
    on_ok_weaker c.join.result
    (λ joined m past sealed fits known stands.
    (let ready = c.in_ok-ready.ensures.ready m past sealed stands.desks_stand in
    joined m past (Carry stream j (Host c.args.at)) stream.from sealed fits
    (carry_joins m (state m past) stream j c.args.at)
    (carried_something c.machine_laws.ensures m past stream j (Host c.args.at) fits)
    (found_ready g.S.Seal.sealed_text stream j c.ready.new.self.desks c.find.new.self.handed.items
    c.in_ok-find.ensures.found m past sealed fits known has ready)
    (subst (Readied m past stream.from) (sym c.in_ok-find.ensures.desks) ready)
    (subst (λ fs. planned.StandsFor m fs (state m past).calls)
    (sym (c.in_ok-find.ensures.files ∙ c.in_ok-ready.ensures.files)) stands.files_stand)))
    c.join.ensures
