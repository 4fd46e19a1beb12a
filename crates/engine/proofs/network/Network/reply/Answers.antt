use Rattle.std.proofs.Common.{Ok, Err, sym, ap, subst, ◌∙◌}
use Rattle.std.proofs.lemmas.Result.{err_from_is_err_and}
use Rattle.frame.specs.Pieces.{piece_count}
use Rattle.engine.specs.inside.Alone.{IsShort}
use Rattle.engine.specs.inside.Ends.{EndsEvent}
use Rattle.engine.proofs.Answering.{AnswersAt, unasked_ends, asked_ends, unanswered_ends}
use Rattle.engine.proofs.network.Network.reply.Goals as goal

pub returns-in_err-reply : goal.returns-in_err-reply
returns-in_err-reply g c = λ m past e sealed fits known is place true_frame heard stands.
    let halt = c.in_err-reply.field-0.0 in
    let given = err_from_is_err_and c.from_residual.result c.from_residual.ensures.1 in
    subst (EndsEvent m past e c.answer.new.self.desks c.answer.new.self.files)
    (sym (given.1 ∙ ap Err given.2))
    (unanswered_ends c.machine_laws.ensures g.S.Seal.sealed_text c.args.from c.args.self.now.desks
    c.answer.new.self.desks c.args.self.now.files c.answer.new.self.files c.answer.new.self.files halt
    (subst (AnswersAt g.S.Seal.sealed_text c.args.from c.args.self.now.desks c.args.self.now.files
    c.answer.new.self.files) c.in_err-reply.was c.answer.ensures.answers)
    m past e sealed fits known place heard stands)

pub returns-in_default : goal.returns-in_default
returns-in_default g c = λ m past e sealed fits known is place true_frame heard stands.
    unasked_ends c.machine_laws.ensures g.S.Seal.sealed_text c.args.from c.slot_of-slot.result
    c.args.self.now.desks c.answer.new.self.desks c.forget_lines.new.self c.args.self.now.files
    c.answer.new.self.files c.slot_of-slot.ensures.slot c.slot_of-slot.ensures.fits
    c.answer.ensures.desks
    (subst (AnswersAt g.S.Seal.sealed_text c.args.from c.args.self.now.desks c.args.self.now.files
    c.answer.new.self.files) (c.in_ok-reply.was ∙ ap Ok c.in_default.is) c.answer.ensures.answers)
    c.forget_lines.ensures.here c.forget_lines.ensures.idle c.forget_lines.ensures.others m past e sealed
    fits known is place true_frame heard stands

pub returns : goal.returns
returns g c = λ m past e sealed fits known is place true_frame heard stands.
    let reply = c.in-Some.reply in
    asked_ends c.machine_laws.ensures g.S.Seal.sealed_text c.args.from c.slot_of-slot.result reply
    c.deref.result.now c.pieces.result c.args.self.now.desks c.answer.new.self.desks
    c.post.new.self.desks c.forget_lines-2.new.self c.args.self.now.files c.answer.new.self.files
    c.post.new.self.files c.slot_of-slot.ensures.slot c.slot_of-slot.ensures.fits
    c.answer.ensures.desks c.post.ensures.files c.deref.ensures.value
    (c.pieces.ensures.count ∙ ap piece_count (c.len.ensures ∙ reply.text.ok.0))
    (subst IsShort c.in-Some.is c.in_ok-reply.ensures.short)
    (subst (AnswersAt g.S.Seal.sealed_text c.args.from c.args.self.now.desks c.args.self.now.files
    c.answer.new.self.files) (c.in_ok-reply.was ∙ ap Ok c.in-Some.is) c.answer.ensures.answers)
    c.in_ok-post.ensures.here c.post.ensures.others c.forget_lines-2.ensures.here
    c.forget_lines-2.ensures.idle c.forget_lines-2.ensures.others m past e sealed fits known is place
    true_frame heard stands
