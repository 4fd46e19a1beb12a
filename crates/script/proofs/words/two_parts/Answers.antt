use Rattle.script.proofs.Cutting.{not_two}
use Rattle.script.proofs.words.two_parts.Goals as goal

pub returns-in-Some : goal.returns-in-Some
returns-in-Some c = not_two c.args.mark c.in_ok-first.first.now c.in-Some.field-0.0.now
    c.in-Some.field-0.1.now _ _ c.in_ok-first.ensures.parts c.in-Some.ensures.parts
