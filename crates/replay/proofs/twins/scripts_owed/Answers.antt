use Rattle.std.proofs.Common.{sym, ap, ◌∙◌}
use Rattle.std.proofs.lemmas.Result.{IfOk-weaker}
use Rattle.levels.specs.Rosters.{RosterView, level_named}
use Rattle.replay.proofs.TwoTexts.{owes_unnamed, owes_apart_at}
use Rattle.replay.proofs.twins.scripts_owed.Goals as goal

pub returns-in_default : goal.returns-in_default
returns-in_default g c =
    let none = ap (λ (r : RosterView). level_named r c.args.name.now) (sym c.roster.ensures.roster)
    ∙ sym c.in_default.ensures.found in
    IfOk-weaker c.refusal_owed.result _ _
    (λ owed h. owes_unnamed c.args.name.now c.args.twins owed.status owed.text.items owed.report none h.0 h.1 h.2)
    c.refusal_owed.ensures

pub returns-in-Apart : goal.returns-in-Apart
returns-in-Apart g c =
    IfOk-weaker c.apart_owed.result _ _
    (λ owed h. owes_apart_at c.args.name.now c.args.twins c.roster.result.now c.in-Some.partition c.in_ok-place.field-0
    c.in-Apart.place owed.status owed.text.items owed.report c.roster.ensures.roster (sym c.in-Some.ensures.found)
    c.in-Some.ensures.within c.in_ok-place.ensures.compares c.in-Apart.is h.0 h.1 h.2)
    c.apart_owed.ensures
