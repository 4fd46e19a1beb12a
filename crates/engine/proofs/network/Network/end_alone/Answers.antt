use Rattle.std.proofs.Common.{◌≡◌, true, sym, subst, ◌∙◌}
use Rattle.planned_files.specs.Standing as planned
use Rattle.events.specs.Scripts.{is_known}
use Rattle.machine.specs.Machine.{state}
use Rattle.engine.proofs.EndingAlone.{host_ends}
use Rattle.engine.proofs.network.Network.end_alone.Goals as goal

pub returns-in-Host : goal.returns-in-Host
returns-in-Host g c = λ m past e sealed fits known is place harmless true_frame handed ready stands.
    host_ends c.machine_laws.ensures m past e c.in-Host.field-0 c.hear_alone.new.self.desks
    c.hear_alone.new.self.files fits (subst (λ u. is_known m.roster u ≡ true) c.in-Host.is known) is
    (place ∙ c.in-Host.is) true_frame
    (c.in_ok-hear_alone.ensures.heard m past e sealed fits known place harmless handed ready)
    (subst (λ fs. planned.StandsFor m fs (state m past).calls) (sym c.hear_alone.ensures.files) stands)

pub returns-in-Manager : goal.returns-in-Manager
returns-in-Manager g c = λ m past e sealed fits known is place harmless true_frame handed ready stands.
    c.reply.ensures m past e sealed fits (subst (λ u. is_known m.roster u ≡ true) c.in-Manager.is known) is
    (place ∙ c.in-Manager.is) true_frame
    (c.in_ok-hear_alone.ensures.heard m past e sealed fits known place harmless handed ready)
    (subst (λ fs. planned.StandsFor m fs (state m past).calls) (sym c.hear_alone.ensures.files) stands)
