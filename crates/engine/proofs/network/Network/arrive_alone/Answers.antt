use Rattle.std.proofs.Common.{List, Option, refl, sym, ap, subst, ◌∙◌, rules}
use Rattle.std.specs.Prelude.{slice_get, option_to_list}
use Rattle.levels.specs.declared.level.Party.TheVariants.{Manager}
use Rattle.events.specs.declared.event.Event.TheVariants.{Arrive}
use Rattle.planned_files.specs.FilesView.{FilesView}
use Rattle.planned_files.specs.Standing as planned
use Rattle.machine.specs.Machine.{state}
use Rattle.desk.specs.Views.{DeskView}
use Rattle.engine.specs.Slots.{HasSlot}
use Rattle.engine.specs.inside.Standing.{Flushed}
use Rattle.engine.proofs.Joining.{found_flushed}
use Rattle.engine.proofs.network.Network.arrive_alone.Goals as goal

pub returns : goal.returns
returns g c =
    let stream = c.args.stream in
    let j = c.args.message in
    let i = c.args.piece in
    let has : HasSlot stream.from = search rules in
    λ m past sealed fits known there stands.
    (let ready = c.in_ok-flush_all.ensures.flushed m past sealed stands.desks_stand in
    let found = found_flushed g.S.Seal.sealed_text stream j c.flush_all.new.self.desks
    c.find.new.self.handed.items c.in_ok-find.ensures.found m past sealed fits known has ready in
    c.end_alone.ensures m past (Arrive stream j i (Manager c.args.at)) sealed fits there
    (record { sending = refl; alone = λ u b. refl }) refl (λ net ws is are. tt) (λ f. f)
    (c.in_ok-keep_piece.ensures.kept ∙ ap (λ frames. option_to_list (slice_get frames i)) found)
    (subst (λ (desks : List (Option DeskView)). Flushed m past desks)
    (sym (c.in_ok-keep_piece.ensures.desks ∙ c.in_ok-find.ensures.desks)) ready)
    (subst (λ (files : FilesView). planned.StandsFor m files (state m past).calls)
    (sym (c.in_ok-keep_piece.ensures.files ∙ c.in_ok-find.ensures.files ∙ c.in_ok-flush_all.ensures.files))
    stands.files_stand))
