use Rattle.std.proofs.Common.{ℕ, ◌∷◌, drop, ap}
use Rattle.host_side.specs.HostView.{HostView}
use Rattle.host_side.proofs.Receiving.{stood, stands_on, handed_body, written}
use Rattle.host_side.proofs.host.HostSide.receive.Goals as goal

pub returns-in-Nothing-clause-stands : goal.returns-in-Nothing-clause-stands
returns-in-Nothing-clause-stands c = λ h stands.
    let from = c.from-from.ensures.from in
    let window = ap (λ (host : HostView). host.window) c.self.view_is in
    stands_on c.take.new.self c.args.piece.now.from c.from-from.result (c.args.piece.now ∷ h) from
    (c.take.ensures.stands h
    (stood c.args.self.now c.self.inside.window c.args.piece.now.from c.from-from.result h window from stands))

pub returns-in-Complete-clause-stands : goal.returns-in-Complete-clause-stands
returns-in-Complete-clause-stands c = λ h stands.
    let from = c.from-from.ensures.from in
    let window = ap (λ (host : HostView). host.window) c.self.view_is in
    let before =
    stood c.args.self.now c.self.inside.window c.args.piece.now.from c.from-from.result h window from stands in
    stands_on c.hand_out.new.self c.args.piece.now.from c.from-from.result (c.args.piece.now ∷ h) from
    (c.hand_out.ensures.stands (c.args.piece.now ∷ h) (c.take.ensures.stands h before))

pub returns-in-Complete-clause-written : goal.returns-in-Complete-clause-written
returns-in-Complete-clause-written c = λ h stands.
    let x = c.args.piece.now in
    let from = c.from-from.ensures.from in
    let window = ap (λ (host : HostView). host.window) c.self.view_is in
    let before = stood c.args.self.now c.self.inside.window x.from c.from-from.result h window from stands in
    let handed = c.hand_out.ensures.body (x ∷ h) (c.take.ensures.stands h before) in
    let same =
    handed_body x
    (x ∷ h) c.take.result c.in-Complete.length _ c.hand_out.new.out
    c.in-Complete.is c.take.ensures.waiting handed in
    written h x c.take.result c.in-Complete.length c.args.out.now c.hand_out.new.out _ c.in-Complete.is
    (c.take.ensures.answer h before) same (ap (λ (k : ℕ). drop k c.args.out.now) c.from.ensures)
