use Rattle.std.proofs.lemmas.Grind.{common_steps}
use Rattle.std.proofs.Common.{arith}
use Rattle.script.specs.inside.Readers.{words}
use Rattle.script.proofs.Cutting.{not_three}
use Rattle.script.proofs.words.three_words.Goals as goal

pub returns-in-Some : goal.returns-in-Some
returns-in-Some c =
    let n = not_three 32 c.in_ok-first.first.now c.in_ok-second.second.now c.in-Some.field-0.0.now
    c.in-Some.field-0.1.now (words c.in_ok-behind.field-0.now) (words c.in_ok-first.rest.now)
    (words c.in_ok-second.third.now)
    c.in_ok-first.ensures.parts c.in_ok-second.ensures.parts c.in-Some.ensures.parts in
    grind (arith, common_steps)
