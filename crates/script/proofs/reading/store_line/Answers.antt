use Rattle.std.proofs.Common.{arith}
use Rattle.std.proofs.lemmas.Grind.{common_steps}
use Rattle.script.proofs.Cutting.{no_action}
use Rattle.script.proofs.reading.store_line.Goals as goal

pub returns-in_err-reader : goal.returns-in_err-reader
returns-in_err-reader c = let n = no_action c.in_ok-behind.field-0.now in
    grind (arith, common_steps)
