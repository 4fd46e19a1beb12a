use Rattle.std.proofs.Common.{ap, sym, ◌∙◌, ℕ, Vec, Global}
use Rattle.std.specs.Prelude.{Err, Some}
use Rattle.std.proofs.lemmas.Bool.{false≢true}
use Rattle.dss_io.specs.declared.reading.ReadStop.{ReadStop}
use Rattle.replay.specs.Words.{Reads}
use Rattle.replay.specs.Due.{Due}
use Rattle.replay.proofs.Owing.{due_unread}
use Rattle.replay.proofs.Ends.{delivers_due, owed_is_due, long_due, takes_long}
use Rattle.replay.proofs.top.carry_out.Goals as goal

pub returns-then-not-reads-clause-delivers : goal.returns-then-not-reads-clause-delivers
returns-then-not-reads-clause-delivers g c = λ bytes tells.
    let unread = λ (reads : Reads (Some c.args.command)).
    absurd (false≢true (sym c.if-not-reads.true ∙ c.reads.ensures.1 reads)) in
    let read = c.new.result.items in
    delivers_due (Due read (Some c.args.command)) (Due bytes (Some c.args.command)) c.answer.result.status _ _
    (λ status text. due_unread read bytes (Some c.args.command) status text unread) c.answer.ensures.answer

pub returns-in-Err-TooMany-clause-delivers : goal.returns-in-Err-TooMany-clause-delivers
returns-in-Err-TooMany-clause-delivers g c = λ bytes tells.
    let reads = c.reads.ensures.0 c.if-not-reads.false in
    let told = tells reads in
    let long = (rw told at c.in-Err-TooMany.ensures.too_many)
    (ap (λ (s : ReadStop). Err s) c.in-Err-TooMany.field-0-is) in
    delivers_due _ _ c.refuse_long.result.status _ _
    (owed_is_due bytes _ _ _ (long_due bytes c.args.command reads long)) c.refuse_long.ensures.answer

pub returns-in-Err-TooMany-clause-taken : goal.returns-in-Err-TooMany-clause-taken
returns-in-Err-TooMany-clause-taken g c =
    takes_long (Vec ℕ Global) _ _ _ _ c.in-Err-TooMany.field-0-is c.in-Err-TooMany.ensures.taken
