use Rattle.std.proofs.Common.{◌≡◌, length, ap, ◌∙◌, arith}
use Rattle.events.specs.ScriptView.{ScriptView}
use Rattle.drill.specs.Steps.{step_at}
use Rattle.drill.proofs.States.{state_after-none}
use Rattle.drill.proofs.Counting.{no_sends, no_calls}
use Rattle.drill.proofs.Growth.{drill-none, drill-roster, few_events, few_sends, few_calls, drill-step, sends-step, calls-step}
use Rattle.drill.proofs.drill.drill_script.Goals as goal

pub loop-init : goal.loop-init
loop-init c = record {
  state = state_after-none c.args.seed _ c.new-draws.ensures;
  script = drill-none _ c.args.seed c.in_ok-drill.ensures.script;
  sends = rw c.in_ok-drill.ensures.sends no_sends;
  calls = rw c.in_ok-drill.ensures.calls no_calls;
}

pub add_step-requires-clause-roster : goal.add_step-requires-clause-roster
add_step-requires-clause-roster c =
    ap (λ (script : ScriptView). script.roster) c.loop.invariant.script ∙ drill-roster c.args.seed c.loop.counter

pub add_step-requires-clause-room : goal.add_step-requires-clause-room
add_step-requires-clause-room c =
    let few = few_events c.args.seed c.loop.counter in
    let same = ap (λ (script : ScriptView). length script.events) c.loop.invariant.script in
    omega (arith, same, c.requires, c.loop-test.true)

pub add_step-requires-clause-sends : goal.add_step-requires-clause-sends
add_step-requires-clause-sends c =
    let sends = c.loop.invariant.sends.each c.step.result.host c.step.ensures.ranges.host in
    omega (arith, sends, few_sends c.args.seed c.loop.counter c.step.result.host, c.requires, c.loop-test.true)

pub add_step-requires-clause-calls : goal.add_step-requires-clause-calls
add_step-requires-clause-calls c =
    let calls = c.loop.invariant.calls.each c.step.result.host c.step.ensures.ranges.host in
    omega (arith, calls, few_calls c.args.seed c.loop.counter c.step.result.host, c.requires, c.loop-test.true)

pub loop-preserved : goal.loop-preserved
loop-preserved c =
    let next : c.step.result ≡ step_at c.args.seed c.loop.counter =
    c.step.ensures.step c.args.seed c.loop.counter c.loop.invariant.state in
    record {
      state = c.step.ensures.state c.args.seed c.loop.counter c.loop.invariant.state;
      script = drill-step c.args.seed c.loop.counter _ _ _ _ _ c.loop.invariant.script next
          c.step.ensures.ranges.host c.loop.invariant.sends c.loop.invariant.calls c.in_ok-add_step.ensures.script;
      sends = sends-step c.args.seed c.loop.counter _ _ _ next
          c.step.ensures.ranges c.loop.invariant.sends c.in_ok-add_step.ensures.sends;
      calls = calls-step c.args.seed c.loop.counter _ _ _ next
          c.step.ensures.ranges c.loop.invariant.calls c.in_ok-add_step.ensures.calls;
    }
