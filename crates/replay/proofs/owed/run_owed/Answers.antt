use Rattle.std.proofs.Common.{subst, List, ℕ}
use Rattle.std.specs.Prelude.{Err}
use Rattle.std.proofs.lemmas.Result.{IfOk-weaker}
use Rattle.script.specs.Answers.{AnswersText}
use Rattle.replay.specs.declared.command.Command.TheVariants.{Run}
use Rattle.replay.proofs.Owing.{refuses}
use Rattle.replay.proofs.owed.run_owed.Goals as goal

pub returns-in-Err : goal.returns-in-Err
returns-in-Err g c =
    let answers =
    subst (λ (b : List ℕ). AnswersText b (Err c.in-Err.stop)) c.deref.ensures.value c.in-Err.ensures.exact in
    IfOk-weaker c.stop_owed.result _ _
    (λ owed h. refuses c.args.bytes.items (Run c.args.shown) c.in-Err.stop owed.status owed.text.items owed.report tt
    c.requires answers h)
    c.stop_owed.ensures
