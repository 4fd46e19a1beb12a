use Rattle.std.proofs.Common.{ap, ◌∙◌, length, length-append, arith}
use Rattle.file_calls.specs.Spelling.{call_text}
use Rattle.file_calls.specs.SpellingBytes.{call_short}
use Rattle.file_calls.proofs.write.write_call.Goals as goal

pub returns-clause-short : goal.returns-clause-short
returns-clause-short c =
    let short = call_short c.args.call.now c.in_ok-push_call.ensures.call in
    let none = ap length c.new-text.ensures.items in
    let all = ap length c.in_ok-push_call.ensures.text
    ∙ length-append c.new-text.result.items (call_text c.args.call.now) in
    omega (arith, short.few, none, all)
