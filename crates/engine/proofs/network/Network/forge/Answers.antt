use Rattle.std.proofs.Common.{refl, sym, ap, subst, ◌∙◌}
use Rattle.events.specs.declared.event.Event.TheVariants.{Forge}
use Rattle.events.specs.Scripts.{is_known}
use Rattle.planned_files.specs.Standing as planned
use Rattle.machine.specs.Machine.{state}
use Rattle.engine.specs.inside.Judging.{IsJudged}
use Rattle.engine.specs.inside.Standing.{Flushed}
use Rattle.engine.proofs.MadeAlone.{forge_alone, forge_harmless, handed_alone}
use Rattle.engine.proofs.network.Network.forge.Goals as goal

pub returns : goal.returns
returns g c = λ m past setup fits known stands.
    let at = c.args.at in
    let bytes = c.args.bytes.now in
    let ready = c.in_ok-flush_all.ensures.flushed m past setup.sealed_is stands.desks_stand in
    let judged = subst (IsJudged m past at bytes) c.if-branch.false
    (c.in_ok-judge.ensures.judged m past setup fits known ready) in
    c.end_alone.ensures m past (Forge at bytes) setup.sealed_is fits
    (ap (λ r. is_known r at) setup.roster_is ∙ known) (forge_alone m (state m past) at bytes) refl
    (forge_harmless c.machine_laws.ensures m past at bytes judged) judged.1
    (handed_alone c.clear.new.self.items c.push.new.self.items bytes c.clear.ensures.items
    c.in_ok-push.ensures.items)
    (subst (Flushed m past) (sym c.in_ok-judge.ensures.desks) ready)
    (subst (λ fs. planned.StandsFor m fs (state m past).calls)
    (sym (c.in_ok-judge.ensures.files ∙ c.in_ok-flush_all.ensures.files)) stands.files_stand)
