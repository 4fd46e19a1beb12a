use Rattle.std.proofs.Common.{ap, ◌∙◌, length, length-append, arith}
use Rattle.file_calls.specs.Spelling.{reply_text}
use Rattle.file_calls.specs.SpellingBytes.{reply_short}
use Rattle.file_calls.proofs.write.write_reply.Goals as goal

pub returns-clause-short : goal.returns-clause-short
returns-clause-short c =
    let short = reply_short c.args.reply.now c.in_ok-push_reply.ensures.reply in
    let none = ap length c.new-text.ensures.items in
    let all = ap length c.in_ok-push_reply.ensures.text
    ∙ length-append c.new-text.result.items (reply_text c.args.reply.now) in
    omega (arith, short.few, none, all)
