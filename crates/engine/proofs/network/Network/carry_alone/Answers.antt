use Rattle.std.proofs.Common.{List, Option, refl, sym, subst, ◌∙◌, rules}
use Rattle.levels.specs.declared.level.Party.TheVariants.{Manager}
use Rattle.events.specs.declared.event.Event.TheVariants.{Carry}
use Rattle.planned_files.specs.FilesView.{FilesView}
use Rattle.planned_files.specs.Standing as planned
use Rattle.machine.specs.Machine.{state}
use Rattle.desk.specs.Views.{DeskView}
use Rattle.engine.specs.Slots.{HasSlot}
use Rattle.engine.specs.inside.Standing.{Flushed}
use Rattle.engine.proofs.Joining.{found_flushed}
use Rattle.engine.proofs.network.Network.carry_alone.Goals as goal

pub returns : goal.returns
returns g c =
    let stream = c.args.stream in
    let j = c.args.message in
    let has : HasSlot stream.from = search rules in
    λ m past sealed fits known there stands.
    (let ready = c.in_ok-flush_all.ensures.flushed m past sealed stands.desks_stand in
    c.end_alone.ensures m past (Carry stream j (Manager c.args.at)) sealed fits there
    (record { sending = refl; alone = λ u b. refl }) refl (λ net ws is are. tt) (λ f. f)
    (found_flushed g.S.Seal.sealed_text stream j c.flush_all.new.self.desks
    c.find.new.self.handed.items c.in_ok-find.ensures.found m past sealed fits known has ready)
    (subst (λ (desks : List (Option DeskView)). Flushed m past desks)
    (sym c.in_ok-find.ensures.desks) ready)
    (subst (λ (files : FilesView). planned.StandsFor m files (state m past).calls)
    (sym (c.in_ok-find.ensures.files ∙ c.in_ok-flush_all.ensures.files)) stands.files_stand))
