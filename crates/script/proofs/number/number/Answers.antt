use Rattle.std.proofs.Common.{arith}
use Rattle.std.proofs.lemmas.Grind.{common_steps}
use Rattle.std.proofs.lemmas.Bool.Decides.{nat_tests}
use Rattle.script.specs.inside.Readers.{number_read}
use Rattle.script.proofs.Digits.{value_above}
use Rattle.script.proofs.number.number.Goals as goal

pub returns-then-next-high-clause-value : goal.returns-then-next-high-clause-value
unfolding number_read
returns-then-next-high-clause-value c =
    let above = value_above c.loop-digit.n c.args.high c.args.word.now c.loop-digit.digit-index
    c.loop-digit-test.true (grind arith) in
    let v = c.loop-digit.invariant.value in
    grind (arith, nat_tests, common_steps)
