use Rattle.std.proofs.Common.{arith}
use Rattle.std.proofs.lemmas.Grind.{common_steps}
use Rattle.script.proofs.Cutting.{something_behind}
use Rattle.script.specs.inside.Readers.{action_meant}
use Rattle.script.proofs.reading.lone_action.Goals as goal

pub returns-in-Some : goal.returns-in-Some
returns-in-Some c = let n = something_behind (action_meant c.args.action) c.in-Some.field-0.now in
    grind (arith, common_steps)
