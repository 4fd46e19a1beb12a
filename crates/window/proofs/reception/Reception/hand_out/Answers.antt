use Rattle.std.proofs.Common.{◌≡◌, Option, Some, sym, ◌∙◌, ap, subst}
use Rattle.std.specs.Prelude.{IfSome}
use Rattle.window.specs.WindowView.{Whole}
use Rattle.window.specs.ListRule.{body}
use Rattle.window.specs.inside.Quarters.{held}
use Rattle.window.specs.inside.Standing.{whole_of, Holds}
use Rattle.window.proofs.Taking.{handed_body, handed_out}
use Rattle.window.proofs.reception.Reception.hand_out.Goals as goal

pub returns-in-Some-clause-body : goal.returns-in-Some-clause-body
returns-in-Some-clause-body c = λ h stands.
    let now = c.args.self.now in
    let is = ap whole_of c.in-Some.is in
    let whole : Whole = record { message = c.in-Some.whole.message; length = c.in-Some.whole.length } in
    let s : Holds now.newest now.given (Some whole) (held now.heads c.args.pool.now) h =
    subst (λ (w : Option Whole). Holds now.newest now.given w (held now.heads c.args.pool.now) h) is stands in
    subst (λ (w : Option Whole). IfSome w (λ v. c.hand_out.new.out ≡ body h v.message)) (sym is)
    (c.hand_out.ensures.out ∙ handed_body now.newest now.given whole (held now.heads c.args.pool.now) h s)

pub returns-in-Some-clause-stands : goal.returns-in-Some-clause-stands
returns-in-Some-clause-stands c = λ h stands.
    let now = c.args.self.now in
    let is = ap whole_of c.in-Some.is in
    let whole : Whole = record { message = c.in-Some.whole.message; length = c.in-Some.whole.length } in
    let s : Holds now.newest now.given (Some whole) (held now.heads c.args.pool.now) h =
    subst (λ (w : Option Whole). Holds now.newest now.given w (held now.heads c.args.pool.now) h) is stands in
    handed_out now.newest now.given whole (held now.heads c.args.pool.now)
    (held c.hand_out.new.self c.hand_out.new.pool) h s c.hand_out.ensures.held
