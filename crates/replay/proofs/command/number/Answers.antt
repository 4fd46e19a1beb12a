use Rattle.std.proofs.Common.{sym, ◌∙◌, ap, arith}
use Rattle.replay.specs.inside.Commands.{is_plain}
use Rattle.replay.proofs.Numbers.{not_plain, parsed, not_parsed, ok_same, ok_apart}
use Rattle.replay.proofs.command.number.Goals as goal

pub returns-then-not-is_plain-clause-value : goal.returns-then-not-is_plain-clause-value
returns-then-not-is_plain-clause-value c =
    let plain = sym (ap is_plain c.as_bytes.ensures.value) ∙ sym c.is_plain.ensures ∙ c.if-not-is_plain.true in
    sym (not_plain c.args.most c.args.word.now (omega arith) plain)

pub returns-in-Ok-clause-value : goal.returns-in-Ok-clause-value
returns-in-Ok-clause-value c =
    let plain = sym (ap is_plain c.as_bytes.ensures.value) ∙ sym c.is_plain.ensures ∙ c.if-not-is_plain.false in
    sym (parsed c.args.most c.in-Ok.n c.args.word.now c.parse.result (omega arith) plain c.parse.ensures.value.0
    c.in-Ok.is c.if-n-most.true)

pub returns-in_default-clause-value : goal.returns-in_default-clause-value
returns-in_default-clause-value c =
    sym (not_parsed c.args.most c.args.word.now c.parse.result (omega arith) c.parse.ensures.value.0
    (λ n is le. ok_same c.parse.result n c.in-Ok.n c.args.most is c.in-Ok.is le c.if-n-most.false))

pub returns-in_default-2-clause-value : goal.returns-in_default-2-clause-value
returns-in_default-2-clause-value c =
    sym (not_parsed c.args.most c.args.word.now c.parse.result (omega arith) c.parse.ensures.value.0
    (λ n is le. ok_apart c.parse.result n c.in_default.field-0 is c.in_default.is))
