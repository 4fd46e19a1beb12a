use Rattle.std.proofs.Common.{true, false, refl, sym, ap, subst, ◌∙◌, rules}
use Rattle.events.specs.declared.event.Event.TheVariants.{Tamper}
use Rattle.events.specs.Scripts.{is_known}
use Rattle.planned_files.specs.Standing as planned
use Rattle.machine.specs.Machine.{state}
use Rattle.machine.specs.FalseBytes.{OpensFalse}
use Rattle.engine.specs.Slots.{HasSlot}
use Rattle.engine.specs.inside.Judging.{FirstOpens}
use Rattle.engine.specs.inside.Standing.{Flushed}
use Rattle.engine.proofs.MadeBytes.{found_flushed}
use Rattle.engine.proofs.MadeAlone.{changed_is, tamper_alone, tamper_harmless, shut_change, open_change}
use Rattle.engine.proofs.network.Network.tamper.Goals as goal

pub returns-then-opens : goal.returns-then-opens
returns-then-opens g c = λ m past setup fits known known_at stands.
    let stream = c.args.stream in
    let j = c.args.message in
    let i = c.args.piece in
    let at = c.args.at in
    let edits = c.args.edits.now in
    let has : HasSlot stream.from = search rules in
    let ready = c.in_ok-flush_all.ensures.flushed m past setup.sealed_is stands.desks_stand in
    let found = found_flushed m past g.S.Seal.sealed_text c.args.roster.now c.flush_all.new.self.desks stream j
    c.find.new.self.handed.items c.in_ok-find.ensures.found setup fits known has ready in
    let handed = changed_is m (state m past) stream j i edits c.pairs.result.now c.find.new.self.handed.items
    c.keep_piece.new.self.handed.items c.change.new.self.handed.items found c.in_ok-keep_piece.ensures.kept
    c.pairs.ensures.pairs c.change.ensures.changed in
    OpensFalse.false_frame (open_change m past stream j i at edits
    (subst (λ fs. FirstOpens m at fs true) handed
    (subst (FirstOpens m at c.change.new.self.handed.items) c.if-opens.true (c.opens.ensures m setup known_at))))

pub returns : goal.returns
returns g c = λ m past setup fits known known_at stands.
    let stream = c.args.stream in
    let j = c.args.message in
    let i = c.args.piece in
    let at = c.args.at in
    let edits = c.args.edits.now in
    let has : HasSlot stream.from = search rules in
    let ready = c.in_ok-flush_all.ensures.flushed m past setup.sealed_is stands.desks_stand in
    let found = found_flushed m past g.S.Seal.sealed_text c.args.roster.now c.flush_all.new.self.desks stream j
    c.find.new.self.handed.items c.in_ok-find.ensures.found setup fits known has ready in
    let handed = changed_is m (state m past) stream j i edits c.pairs.result.now c.find.new.self.handed.items
    c.keep_piece.new.self.handed.items c.change.new.self.handed.items found c.in_ok-keep_piece.ensures.kept
    c.pairs.ensures.pairs c.change.ensures.changed in
    let shut = subst (λ fs. FirstOpens m at fs false) handed
    (subst (FirstOpens m at c.change.new.self.handed.items) c.if-opens.false (c.opens.ensures m setup known_at)) in
    c.end_alone.ensures m past (Tamper stream j i at edits) setup.sealed_is fits
    (ap (λ r. is_known r at) setup.roster_is ∙ known_at) (tamper_alone m (state m past) stream j i at edits) refl
    (tamper_harmless c.machine_laws.ensures m past stream j i at edits shut)
    (shut_change m past stream j i at edits shut) handed
    (subst (Flushed m past) (sym (c.change.ensures.desks ∙ c.in_ok-keep_piece.ensures.desks
    ∙ c.in_ok-find.ensures.desks)) ready)
    (subst (λ fs. planned.StandsFor m fs (state m past).calls)
    (sym (c.change.ensures.files ∙ c.in_ok-keep_piece.ensures.files ∙ c.in_ok-find.ensures.files
    ∙ c.in_ok-flush_all.ensures.files)) stands.files_stand)
