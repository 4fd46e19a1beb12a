use Rattle.std.proofs.Common.{◌≡◌, ◌+◌, ◌*◌, ◌≤◌, ◌<◌, ◌∷◌, ◌++◌, [], length, take, drop, sym, ap, ap₂, subst, ◌∙◌, arith, append_assoc}
use Rattle.std.specs.Prelude.{vec_len, vec_capacity}
use Rattle.ring_link.specs.Ends.{spare}
use Rattle.unit_core.specs.Views.{OutgoingView}
use Rattle.unit_core.specs.Sending.{answer_of, number_for, answers_to}
use Rattle.unit_core.specs.inside.Sides.{SendsAll}
use Rattle.unit_core.proofs.Lists.{take_next, drop_next}
use Rattle.unit_core.proofs.Sent.{no_sends, sends_both}
use Rattle.unit_core.proofs.host_turn.send_all.Goals as goal
use Rattle.std.proofs.Common.{List}

pub loop-send-init : goal.loop-send-init
loop-send-init g c = record {
  sends = no_sends c.args.host.now c.args.end.now;
  answers = search;
  room = c.requires.room;
  slots = c.requires.answers;
  memory = search;
}

pub loop-send-preserved : goal.loop-send-preserved
loop-send-preserved g c =
    let was = c.loop-send.invariant in
    let one = c.send_one-answer.ensures in
    let sends = c.args.sends.now in
    let i = c.loop-send.send-index in
    let x = c.send-item.result in
    let next = drop_next sends i x c.loop-send-test.true c.send-item.is in
    let fewer : length (drop i sends) ≡ length (drop (i + 1) sends) + 1 = omega (arith, ap length next) in
    record {
      sends = subst (λ (xs : List OutgoingView). SendsAll xs c.args.host.now
          c.send_one-answer.new.host c.args.end.now c.send_one-answer.new.end)
          (sym (take_next sends i x c.loop-send-test.true c.send-item.is))
          (sends_both (take i sends) (x ∷ []) c.args.host.now c.loop-send.host c.send_one-answer.new.host
          c.args.end.now c.loop-send.end c.send_one-answer.new.end was.sends one.sends);
      answers =
          ap₂ (λ before streams. before ++ answers_to streams (drop (i + 1) sends))
          (c.push_reserved.ensures.items ∙ ap (λ answer. c.loop-send.answers.items ++ answer ∷ []) one.answer)
          one.sends.streams
          ∙ append_assoc c.loop-send.answers.items (answer_of (number_for c.loop-send.host.streams x) ∷ []) _
          ∙ ap (λ rest. c.loop-send.answers.items ++ answers_to c.loop-send.host.streams rest) (sym next)
          ∙ was.answers;
      room = omega (arith, was.room, fewer, one.spare);
      slots = omega (arith, was.slots, fewer, c.push_reserved.ensures.len, c.push_reserved.ensures.capacity);
      memory = c.push_reserved.ensures.capacity ∙ was.memory;
    }
