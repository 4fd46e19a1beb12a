use Rattle.std.proofs.Common.{subst, List, ℕ}
use Rattle.std.specs.Prelude.{Err}
use Rattle.std.proofs.lemmas.Result.{IfOk-weaker}
use Rattle.replay.specs.declared.command.Command.TheVariants.{Twin}
use Rattle.replay.specs.inside.Owing.{IsOwedFor}
use Rattle.replay.specs.inside.Reading.{ReadsTwins}
use Rattle.replay.proofs.TwoTexts.{refuses_twins}
use Rattle.replay.proofs.twins.twins_owed.Goals as goal

pub returns-in-Ok : goal.returns-in-Ok
returns-in-Ok g c =
    IfOk-weaker c.scripts_owed.result _ _
    (λ owed h. subst (λ (b : List ℕ). IsOwedFor b (Twin c.args.name.now) owed.status owed.text.items owed.report)
    c.deref.ensures.value (c.in-Ok.ensures.reads c.args.name.now owed.status owed.text.items owed.report h))
    c.scripts_owed.ensures

pub returns-in-Err : goal.returns-in-Err
returns-in-Err g c =
    IfOk-weaker c.stop_owed.result _ _
    (λ owed h. refuses_twins c.args.bytes.items c.args.name.now c.in-Err.stop owed.status owed.text.items owed.report
    (subst (λ (b : List ℕ). ReadsTwins b (Err c.in-Err.stop)) c.deref.ensures.value c.in-Err.ensures.reads) h)
    c.stop_owed.ensures
