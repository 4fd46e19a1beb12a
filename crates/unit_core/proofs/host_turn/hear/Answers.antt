use Rattle.std.proofs.Common.{◌≡◌, ◌≤◌, ◌+◌, ◌∷◌, ◌++◌, [], List, length, take, refl, sym, ap, ap₂, subst, ◌∙◌, arith, append-nil}
use Rattle.std.proofs.lemmas.List.{length-take-le}
use Rattle.unit_core.specs.Views.{GivenMessage}
use Rattle.unit_core.specs.inside.Messages.{AreFew}
use Rattle.unit_core.proofs.Hearings.{message_at, gives_none, gives_one, hears_one, few_more, few_still}
use Rattle.unit_core.proofs.host_turn.hear.Goals as goal

pub returns-in-Some : goal.returns-in-Some
returns-in-Some c =
    let x = c.args.piece.now in
    let r = c.receive.ensures in
    let out = c.receive.new.out in
    let given = c.in-Some.given in
    let m = message_at c.args.number c.from-from.result given.message (take c.from.result out) in
    let long : length (take c.from.result out) ≡ c.from.result =
    length-take-le c.from.result out (omega (arith, c.receive.array_long, c.from.ensures, c.in-Some.ensures.short)) in
    let short : length (take c.from.result out) ≤ 5632 = omega
    (arith, long, c.from.ensures, c.in-Some.ensures.short) in
    hears_one c.args.host.now c.receive.new.self c.args.number x c.args.messages.now c.push.new.self (m ∷ [])
    c.requires.mine c.from-from.ensures.kept.from r.names r.numbers r.room r.others r.stands c.push.ensures.pushed
    (λ h stands.
    gives_one h x c.args.number c.from-from.result c.from.result c.args.body.now out given c.from-from.ensures.from
    c.from.ensures (sym c.in-Some.is ∙ r.answer h stands) (r.written h stands))
    (λ k few. subst (AreFew (k + 1)) (sym c.push.ensures.pushed) (few_more k c.args.messages.now.list m short few))
    c.push.ensures.memory

pub returns-in_default : goal.returns-in_default
returns-in_default c =
    let x = c.args.piece.now in
    let r = c.receive.ensures in
    hears_one c.args.host.now c.receive.new.self c.args.number x c.args.messages.now c.args.messages.now []
    c.requires.mine c.from-from.ensures.kept.from r.names r.numbers r.room r.others r.stands
    (sym (append-nil c.args.messages.now.list))
    (λ h stands. gives_none h x c.args.number (sym c.in_default.is ∙ r.answer h stands))
    (λ k few. few_still k _ few) refl
