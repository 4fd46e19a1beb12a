use Rattle.std.proofs.lemmas.Grind.{common_steps}
use Rattle.std.proofs.Common.{arith}
use Rattle.script.specs.inside.Readers.{words}
use Rattle.script.proofs.Cutting.{not_one}
use Rattle.script.proofs.words.one_word.Goals as goal

pub returns-in-Some : goal.returns-in-Some
returns-in-Some c =
    let n = not_one 32 c.in-Some.field-0.0.now c.in-Some.field-0.1.now (words c.in_ok-text.text.now)
    c.in-Some.ensures.parts in
    grind (arith, common_steps)
