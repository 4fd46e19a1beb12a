use Rattle.std.proofs.Common.{ℕ, ◌+◌, refl, ap, ◌∙◌, arith}
use Rattle.std.proofs.lemmas.Option.{slice_get_within}
use Rattle.std.proofs.lemmas.Result.{IfOk-weaker}
use Rattle.replay.specs.declared.status.Status.TheVariants.{Opened}
use Rattle.replay.specs.Lines.{opened_line}
use Rattle.replay.specs.Twins.{alike_text}
use Rattle.replay.proofs.Owing.{stops_at}
use Rattle.replay.proofs.TwoTexts.{owes_first, owes_second, owes_alike, line_of_within}
use Rattle.replay.proofs.twins.alike_owed.Goals as goal

pub returns-in-Err-Opened : goal.returns-in-Err-Opened
returns-in-Err-Opened g c = λ name named.
    let at = stops_at c.args.twins.first _ _ c.in-Err-Opened.field-0-is c.in-Err-Opened.ensures in
    IfOk-weaker c.opened_owed.result _ _
    (λ owed h. owes_first name c.args.twins c.args.level c.in-Err-Opened.number owed.status owed.text.items owed.report
    named c.requires.alike at (h.0 ∙ ap (λ (n : ℕ). Opened n) c.in-Err-Opened.number-is)
    (h.1 ∙ ap opened_line c.in-Err-Opened.number-is) h.2)
    c.opened_owed.ensures

pub returns-in-Ok-run_script : goal.returns-in-Ok-run_script
returns-in-Ok-run_script g c = λ name named.
    owes_alike name c.args.twins c.args.level c.in_ok-text-in-Ok.text.items named c.requires.alike
    c.in-Ok.ensures.clean c.in-Ok-run_script.ensures.clean
    (c.in_ok-text-in-Ok.ensures ∙ ap (alike_text c.args.level) c.in-Ok.ensures.own)

pub overflow_add-above : goal.overflow_add-above
overflow_add-above g c =
    let second = c.args.twins.second in
    let at = stops_at second _ _ c.in-Err-Opened-run_script.field-0-is c.in-Err-Opened-run_script.ensures in
    let few = line_of_within second at.event c.roster-kept.ensures.kept
    (slice_get_within second.events at.event at.first.event at.first.there) in
    omega (arith, few, at.there, c.requires.above)

pub returns-in-Err-Opened-run_script : goal.returns-in-Err-Opened-run_script
returns-in-Err-Opened-run_script g c = λ name named.
    let number = c.in-Err-Opened-run_script.number in
    let above = c.args.twins.above in
    let at = stops_at c.args.twins.second _ _ c.in-Err-Opened-run_script.field-0-is
    c.in-Err-Opened-run_script.ensures in
    IfOk-weaker c.opened_owed-in-Err-Opened-run_script.result _ _
    (λ owed h. owes_second name c.args.twins c.args.level number (above + number) owed.status owed.text.items
    owed.report named c.requires.alike c.in-Ok.ensures.clean at refl
    (h.0 ∙ ap (λ (n : ℕ). Opened (above + n)) c.in-Err-Opened-run_script.number-is)
    (h.1 ∙ ap (λ (n : ℕ). opened_line (above + n)) c.in-Err-Opened-run_script.number-is) h.2)
    c.opened_owed-in-Err-Opened-run_script.ensures
