use Rattle.std.proofs.Common.{◌-◌, length, arith}
use Rattle.script.proofs.Searching.{first_in_group, first_in_last, few_passed, group_passed, before_within}
use Rattle.script.proofs.search.before.Goals as goal

pub loop-at-init : goal.loop-at-init
loop-at-init c = record { clear = λ k lt. absurd (omega arith); near = omega arith }

pub returns-then-passed-lt-GROUP-clause-first : goal.returns-then-passed-lt-GROUP-clause-first
returns-then-passed-lt-GROUP-clause-first c =
    first_in_group c.args.text.now c.loop-at.at c.args.mark c.before_in_group-passed.result (omega arith)
    c.before_in_group-passed.ensures c.loop-at.invariant.clear c.if-passed-lt-GROUP.true

pub loop-at-preserved : goal.loop-at-preserved
loop-at-preserved c = record {
  clear = group_passed c.args.text.now c.loop-at.at c.args.mark c.before_in_group-passed.result (omega arith)
      c.before_in_group-passed.ensures c.loop-at.invariant.clear c.if-passed-lt-GROUP.false;
  near = omega arith;
}

pub overflow_add-result-2 : goal.overflow_add-result-2
overflow_add-result-2 c =
    let few =
    few_passed c.args.text.now (length c.args.text.now - 32) c.args.mark c.before_in_group.result
    (omega arith) c.before_in_group.ensures in
    omega arith

pub returns-clause-first : goal.returns-clause-first
returns-clause-first c =
    first_in_last c.args.text.now (length c.args.text.now - 32) c.args.mark c.before_in_group.result (omega arith)
    c.before_in_group.ensures (λ k lt. c.loop-at.invariant.clear k (omega arith))

pub returns-then-text-lt-GROUP-clause-within : goal.returns-then-text-lt-GROUP-clause-within
returns-then-text-lt-GROUP-clause-within c =
    omega (arith, c.before_in_short.ensures, before_within c.args.mark c.args.text.now)

pub returns-clause-within : goal.returns-clause-within
returns-clause-within c =
    let few =
    few_passed c.args.text.now (length c.args.text.now - 32) c.args.mark c.before_in_group.result
    (omega arith) c.before_in_group.ensures in
    omega arith
