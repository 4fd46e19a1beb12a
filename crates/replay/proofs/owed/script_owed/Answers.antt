use Rattle.std.proofs.Common.{ℕ, ap, ◌∙◌}
use Rattle.std.proofs.lemmas.Result.{IfOk-weaker}
use Rattle.replay.specs.declared.status.Status.TheVariants.{Opened}
use Rattle.replay.specs.Lines.{opened_line}
use Rattle.replay.proofs.Owing.{stops, stops_at}
use Rattle.replay.proofs.owed.script_owed.Goals as goal

pub returns-in-Err-Opened : goal.returns-in-Err-Opened
returns-in-Err-Opened g c =
    let at = stops_at c.args.script _ _ c.in-Err-Opened.field-0-is c.in-Err-Opened.ensures in
    IfOk-weaker c.opened_owed.result _ _
    (λ owed h. stops c.args.shown c.args.script c.in-Err-Opened.number owed.status owed.text.items owed.report at
    (h.0 ∙ ap (λ (n : ℕ). Opened n) c.in-Err-Opened.number-is) (h.1 ∙ ap opened_line c.in-Err-Opened.number-is) h.2)
    c.opened_owed.ensures
