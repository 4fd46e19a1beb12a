use Rattle.std.proofs.Common.{arith}
use Rattle.script.proofs.Digits.{power_halved}
use Rattle.script.proofs.categories.+rising.Goals as goal

pub returns-then-first-letter-clause-below : goal.returns-then-first-letter-clause-below
returns-then-first-letter-clause-below t c =
    omega (arith, c.rising-higher.ensures.below, power_halved c.args.count (omega arith))

pub returns-else-first-letter-clause-below : goal.returns-else-first-letter-clause-below
returns-else-first-letter-clause-below t c =
    omega (
      arith,
      c.rising-higher-else-first-letter.ensures.below,
      power_halved c.args.count (omega arith),
    )
