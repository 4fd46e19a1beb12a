use Rattle.std.proofs.Common.{◌+◌, refl, sym, subst, Some, Ok, Err}
use Rattle.machine.specs.Machine.{Message}
use Rattle.planned_files.specs.Answers.{IsAnswer}
use Rattle.machine.specs.Files.{CallRow}
use Rattle.engine.specs.declared.halt.Halt.TheVariants.{Opened}
use Rattle.engine.specs.inside.Alone.{Answers}
use Rattle.engine.proofs.OneGiven.{first_in_slot}
use Rattle.engine.proofs.network.Network.answer.Goals as goal

pub returns-in-Reply-clause-answers : goal.returns-in-Reply-clause-answers
returns-in-Reply-clause-answers g c = λ m calls sealed stands.
    let to = c.in-Some-first_given.to in
    let body = c.in-Some-first_given.message.now in
    let given : Message = record { from = to; body = body } in
    let call : CallRow = record { caller = to; level = c.args.from.0; message = body } in
    subst (λ l. Answers m calls c.args.from.0 l c.answer.new.self
    (Ok (Some (record { to = to; text = c.in-Reply.text }))))
    (sym (first_in_slot c.args.self.now.desks (256 + c.args.from.0) c.slot_of.result c.in-Some.desk.now
    c.lines.result.now (Some given) c.slot_of.ensures.slot c.in-Some.ensures.some c.lines.ensures.same
    c.in-Some-first_given.ensures.some))
    (record {
      stands = c.in_ok-text.ensures.stands m calls to sealed stands;
      to = refl;
      is = subst (IsAnswer m calls call) c.in-Reply.is (c.in_ok-text.ensures.answer m calls to sealed stands);
    })

pub returns-in-FalseRecord-clause-answers : goal.returns-in-FalseRecord-clause-answers
returns-in-FalseRecord-clause-answers g c = λ m calls sealed stands.
    let to = c.in-Some-first_given.to in
    let body = c.in-Some-first_given.message.now in
    let given : Message = record { from = to; body = body } in
    let call : CallRow = record { caller = to; level = c.args.from.0; message = body } in
    subst (λ l. Answers m calls c.args.from.0 l c.answer.new.self (Err Opened))
    (sym (first_in_slot c.args.self.now.desks (256 + c.args.from.0) c.slot_of.result c.in-Some.desk.now
    c.lines.result.now (Some given) c.slot_of.ensures.slot c.in-Some.ensures.some c.lines.ensures.same
    c.in-Some-first_given.ensures.some))
    (subst (IsAnswer m calls call) c.in-FalseRecord.is (c.in_ok-text.ensures.answer m calls to sealed stands))
