use Rattle.std.proofs.Common.{Option, subst}
use Rattle.replay.specs.declared.command.Command.{Command}
use Rattle.replay.specs.declared.status.Status.TheVariants.{Usage}
use Rattle.replay.specs.Due.{Due, Delivers}
use Rattle.replay.proofs.Ends.{usage_delivers}
use Rattle.replay.proofs.top.run.Goals as goal

pub returns-in_default-clause-delivers : goal.returns-in_default-clause-delivers
returns-in_default-clause-delivers g c = λ bytes tells.
    let told = g.K.Sink.written c.args.sink.now in
    subst (λ (words : Option Command). Delivers (Due bytes words) Usage told told)
    c.in_default.ensures.value
    (usage_delivers bytes told)
