use Rattle.std.proofs.lemmas.Result.{IfOk-weaker}
use Rattle.replay.specs.declared.command.Command.TheVariants.{Check}
use Rattle.replay.proofs.Owing.{refuses}
use Rattle.replay.proofs.owed.check_owed.Goals as goal

pub returns-in-Err : goal.returns-in-Err
returns-in-Err c =
    IfOk-weaker c.stop_owed.result _ _
    (λ owed h. refuses c.args.bytes.now Check c.in-Err.stop owed.status owed.text.items owed.report tt c.requires
    c.in-Err.ensures.exact h)
    c.stop_owed.ensures
