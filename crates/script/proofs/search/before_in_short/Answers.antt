use Rattle.std.proofs.Common.{length, arith}
use Rattle.std.proofs.lemmas.Bool.Decides.{nat_tests}
use Rattle.script.proofs.Searching.{first_at, clear_more}
use Rattle.script.proofs.search.before_in_short.Goals as goal

pub loop-i-init : goal.loop-i-init
loop-i-init c k lt = absurd (omega arith)

pub returns-then-c-mark : goal.returns-then-c-mark
returns-then-c-mark c =
    first_at c.args.text.now c.args.mark c.loop-i.i (omega arith) c.loop-i.invariant (λ lt. grind (arith, nat_tests))

pub loop-i-preserved : goal.loop-i-preserved
loop-i-preserved c = clear_more c.args.text.now c.args.mark c.loop-i.i c.loop-i.invariant
    (grind (arith, nat_tests))

pub returns : goal.returns
returns c =
    first_at c.args.text.now c.args.mark (length c.args.text.now) (omega arith)
    (λ k lt. c.loop-i.invariant k (omega arith)) (λ lt. absurd (omega arith))
