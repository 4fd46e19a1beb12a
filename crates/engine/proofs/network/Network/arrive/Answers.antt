use Rattle.std.proofs.Common.{sym, ap, subst, ◌∙◌, rules}
use Rattle.std.specs.Prelude.{slice_get, option_to_list}
use Rattle.std.proofs.lemmas.Result.{on_ok_weaker}
use Rattle.levels.specs.declared.level.Party.TheVariants.{Host}
use Rattle.events.specs.declared.event.Event.TheVariants.{Arrive}
use Rattle.planned_files.specs.Standing as planned
use Rattle.machine.specs.Machine.{state}
use Rattle.engine.specs.Slots.{HasSlot}
use Rattle.engine.specs.inside.Standing.{Readied}
use Rattle.engine.proofs.Joining.{arrive_joins, found_ready}
use Rattle.engine.proofs.Something.{arrived_something}
use Rattle.engine.proofs.network.Network.arrive.Goals as goal

pub returns : goal.returns
returns g c =
    let stream = c.args.stream in
    let j = c.args.message in
    let i = c.args.piece in
    let has : HasSlot stream.from = search rules in
    on_ok_weaker c.join.result
    (λ joined m past sealed fits known stands.
    (let ready = c.in_ok-ready.ensures.ready m past sealed stands.desks_stand in
    joined m past (Arrive stream j i (Host c.args.at)) stream.from sealed fits
    (arrive_joins m (state m past) stream j i c.args.at)
    (arrived_something c.machine_laws.ensures m past stream j i (Host c.args.at) fits)
    (c.in_ok-keep_piece.ensures.kept
    ∙ ap (λ frames. option_to_list (slice_get frames i))
    (found_ready g.S.Seal.sealed_text stream j c.ready.new.self.desks c.find.new.self.handed.items
    c.in_ok-find.ensures.found m past sealed fits known has ready))
    (subst (Readied m past stream.from)
    (sym (c.in_ok-keep_piece.ensures.desks ∙ c.in_ok-find.ensures.desks)) ready)
    (subst (λ fs. planned.StandsFor m fs (state m past).calls)
    (sym (c.in_ok-keep_piece.ensures.files ∙ c.in_ok-find.ensures.files ∙ c.in_ok-ready.ensures.files))
    stands.files_stand)))
    c.join.ensures
