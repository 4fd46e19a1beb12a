use Rattle.std.proofs.Common.{arith}
use Rattle.std.proofs.lemmas.Grind.{common_steps}
use Rattle.script.proofs.Cutting.{tamper_words}
use Rattle.script.proofs.read_event.tamper_line.Goals as goal

pub returns-in_err-stream : goal.returns-in_err-stream
returns-in_err-stream c =
    let t = tamper_words c.in_ok-behind.field-0.now c.in_ok-piece.piece.now c.in_ok-piece.rest.now
    c.in_ok-to.to.now c.in_ok-to.rest.now c.in_ok-at.at.now c.in_ok-at.edits.now
    c.in_ok-piece.ensures.parts c.in_ok-to.ensures.parts c.in_ok-at.ensures.parts in
    grind (arith, common_steps)

pub returns-then-ne : goal.returns-then-ne
returns-then-ne c =
    let t = tamper_words c.in_ok-behind.field-0.now c.in_ok-piece.piece.now c.in_ok-piece.rest.now
    c.in_ok-to.to.now c.in_ok-to.rest.now c.in_ok-at.at.now c.in_ok-at.edits.now
    c.in_ok-piece.ensures.parts c.in_ok-to.ensures.parts c.in_ok-at.ensures.parts in
    grind (arith, common_steps)

pub returns-in_err-at-2 : goal.returns-in_err-at-2
returns-in_err-at-2 c =
    let t = tamper_words c.in_ok-behind.field-0.now c.in_ok-piece.piece.now c.in_ok-piece.rest.now
    c.in_ok-to.to.now c.in_ok-to.rest.now c.in_ok-at.at.now c.in_ok-at.edits.now
    c.in_ok-piece.ensures.parts c.in_ok-to.ensures.parts c.in_ok-at.ensures.parts in
    grind (arith, common_steps)

pub returns-in_err-edits : goal.returns-in_err-edits
returns-in_err-edits c =
    let t = tamper_words c.in_ok-behind.field-0.now c.in_ok-piece.piece.now c.in_ok-piece.rest.now
    c.in_ok-to.to.now c.in_ok-to.rest.now c.in_ok-at.at.now c.in_ok-at.edits.now
    c.in_ok-piece.ensures.parts c.in_ok-to.ensures.parts c.in_ok-at.ensures.parts in
    grind (arith, common_steps)

pub returns : goal.returns
returns c =
    let t = tamper_words c.in_ok-behind.field-0.now c.in_ok-piece.piece.now c.in_ok-piece.rest.now
    c.in_ok-to.to.now c.in_ok-to.rest.now c.in_ok-at.at.now c.in_ok-at.edits.now
    c.in_ok-piece.ensures.parts c.in_ok-to.ensures.parts c.in_ok-at.ensures.parts in
    grind (arith, common_steps)
