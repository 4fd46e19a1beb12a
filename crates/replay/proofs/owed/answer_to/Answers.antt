use Rattle.std.proofs.Common.{sym, subst, List, ℕ}
use Rattle.std.proofs.lemmas.Result.{IfOk-weaker}
use Rattle.replay.specs.declared.command.Command.{Command}
use Rattle.replay.specs.declared.command.Command.TheVariants.{Check}
use Rattle.replay.specs.inside.Owing.{IsOwedFor}
use Rattle.replay.proofs.owed.answer_to.Goals as goal

pub returns-in-Check : goal.returns-in-Check
returns-in-Check g c =
    IfOk-weaker c.check_owed.result _ _
    (λ owed h. subst (λ (k : Command). IsOwedFor c.args.bytes.items k owed.status owed.text.items owed.report)
    (sym c.in-Check.is)
    (subst (λ (b : List ℕ). IsOwedFor b Check owed.status owed.text.items owed.report) c.deref.ensures.value h))
    c.check_owed.ensures

pub returns-in-Run : goal.returns-in-Run
returns-in-Run g c =
    IfOk-weaker c.run_owed.result _ _
    (λ owed h. subst (λ (k : Command). IsOwedFor c.args.bytes.items k owed.status owed.text.items owed.report)
    (sym c.in-Run.is) h)
    c.run_owed.ensures

pub returns-in-Twin : goal.returns-in-Twin
returns-in-Twin g c =
    IfOk-weaker c.twins_owed.result _ _
    (λ owed h. subst (λ (k : Command). IsOwedFor c.args.bytes.items k owed.status owed.text.items owed.report)
    (sym c.in-Twin.is) h)
    c.twins_owed.ensures

pub returns-in-Drill : goal.returns-in-Drill
returns-in-Drill g c =
    IfOk-weaker c.drill_owed.result _ _
    (λ owed h. subst (λ (k : Command). IsOwedFor c.args.bytes.items k owed.status owed.text.items owed.report)
    (sym c.in-Drill.is) (h c.args.bytes.items))
    c.drill_owed.ensures
