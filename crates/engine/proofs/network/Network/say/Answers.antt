use Rattle.std.proofs.Common.{sym, subst, ap, ◌∙◌}
use Rattle.levels.specs.declared.level.Party.TheVariants.{Host}
use Rattle.events.specs.Scripts.{is_known}
use Rattle.engine.specs.inside.Ends.{row_said, Passed}
use Rattle.engine.proofs.Memory.{ends_for_memory}
use Rattle.engine.proofs.Rows.{send_passes}
use Rattle.engine.proofs.network.Network.say.Goals as goal

pub returns : goal.returns
returns g c m past e setup fits known is joins none stands =
    subst (Passed m past e c.send.new.self.desks c.send.new.self.files)
    (ap (λ roster. row_said roster (Host c.args.from) c.args.to c.args.message.now) setup.roster_is
    ∙ sym c.row_of.ensures)
    (send_passes c.machine_laws.ensures m past e c.args.from c.args.to c.args.message.now
    c.send.new.self.desks c.send.new.self.files fits is
    (ap (λ roster. is_known roster (Host c.args.from)) setup.roster_is ∙ known)
    (c.in_ok-send.ensures m past e setup.sealed_is fits is joins none stands))

pub returns-in_err-send : goal.returns-in_err-send
returns-in_err-send g c m past e setup fits known is joins none stands =
    ends_for_memory m past e c.send.new.self.desks c.send.new.self.files c.from_residual.result
    c.from_residual.ensures.1
