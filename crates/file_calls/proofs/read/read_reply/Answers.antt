use Rattle.std.proofs.Common.{◌≡◌, [], Option, IfOk, refl, subst, arith}
use Rattle.seal_core.specs.Blocks.{AreBytes}
use Rattle.file_calls.specs.declared.call.Reply.{Reply}
use Rattle.file_calls.specs.Spelling.{reply_of, reply_text}
use Rattle.file_calls.proofs.RepliesRead.{reply_by-is-reply_of}
use Rattle.file_calls.proofs.Options.{nothing}
use Rattle.file_calls.proofs.read.read_reply.Goals as goal

pub returns-in-empty : goal.returns-in-empty
unfolding reply_of reply_text
returns-in-empty c =
    let none : c.args.bytes.now ≡ [] = nothing c.args.bytes.now (omega arith) in
    rw none refl

pub returns-in-len1-up : goal.returns-in-len1-up
returns-in-len1-up c =
    let are : AreBytes c.args.bytes.now = record { below = λ i. omega (arith, c.type_inv.bytes i) } in
    subst (λ (due : Option Reply). IfOk c.reply_by.result (λ reply. reply ≡ due))
    (reply_by-is-reply_of c.args.bytes.now are) c.reply_by.ensures
