use Rattle.std.proofs.Common.{◌≡◌, [], Option, IfOk, refl, subst, arith}
use Rattle.seal_core.specs.Blocks.{AreBytes}
use Rattle.file_calls.specs.declared.call.Call.{Call}
use Rattle.file_calls.specs.Spelling.{call_of, call_text}
use Rattle.file_calls.proofs.CallsRead.{call_by-is-call_of}
use Rattle.file_calls.proofs.Options.{nothing}
use Rattle.file_calls.proofs.read.read_call.Goals as goal

pub returns-in-empty : goal.returns-in-empty
unfolding call_of call_text
returns-in-empty c =
    let none : c.args.bytes.now ≡ [] = nothing c.args.bytes.now (omega arith) in
    rw none refl

pub returns-in-len1-up : goal.returns-in-len1-up
returns-in-len1-up c =
    let are : AreBytes c.args.bytes.now = record { below = λ i. omega (arith, c.type_inv.bytes i) } in
    subst (λ (due : Option Call). IfOk c.call_by.result (λ call. call ≡ due))
    (call_by-is-call_of c.args.bytes.now are) c.call_by.ensures
