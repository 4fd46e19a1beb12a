use Rattle.std.proofs.Common.{◌≤◌, length, arith}
use Rattle.script.specs.declared.read.TheConstants.{TEXT_LIMIT}
use Rattle.script.specs.inside.Stages.{seen}
use Rattle.script.proofs.Looping.{goes_on_by, stops_by, ends_badly_by, finishes_by, whole_text, whole_plan}
use Rattle.script.proofs.Reached.{reached_none}
use Rattle.script.proofs.read.read_script.Goals as goal

pub loop-text-init : goal.loop-text-init
loop-text-init c = record {
  reached = reached_none c.args.bytes.now;
  sound = tt;
  counted = omega arith;
  one = omega arith;
}

pub loop-text-preserved : goal.loop-text-preserved
loop-text-preserved c = record {
  reached = goes_on_by c.args.bytes.now c.loop-text.line c.loop-text.rest.now c.in-Some.behind.now
      c.in-Some.text.now
      (seen c.loop-text.stage) c.step.new.self c.loop-text.invariant.one c.loop-text.invariant.reached
      c.in-Some.ensures.parts c.in-Ok.ensures;
  sound = c.in-Ok.ensures.4;
  counted = omega (arith, c.in-Some.ensures.shorter, c.loop-text.invariant.counted);
  one = omega arith;
}

pub returns-in-Err-clause-exact : goal.returns-in-Err-clause-exact
returns-in-Err-clause-exact c =
    let short : length c.args.bytes.now ≤ TEXT_LIMIT = omega arith in
    rw c.at_line-in-Err.ensures (stops_by c.args.bytes.now c.loop-text.line c.loop-text.rest.now
    c.in-Some.behind.now c.in-Some.text.now
    (seen c.loop-text.stage) c.in-Err.stop short c.loop-text.invariant.one
    c.loop-text.invariant.reached c.in-Some.ensures.parts c.in-Err.ensures)

pub returns-in-Ok-finish : goal.returns-in-Ok-finish
returns-in-Ok-finish c =
    let short : length c.args.bytes.now ≤ TEXT_LIMIT = omega arith in
    let of = finishes_by c.args.bytes.now c.loop-text.line c.loop-text.rest.now
    (seen c.loop-text.stage) c.in-Ok-finish.script
    short c.loop-text.invariant.reached c.in-Ok-finish.ensures in
    record {
      exact = of;
      text = whole_text c.args.bytes.now c.in-Ok-finish.script of;
      spelled = whole_plan c.args.bytes.now c.in-Ok-finish.script of;
    }

pub returns-in-Err-finish-clause-exact : goal.returns-in-Err-finish-clause-exact
returns-in-Err-finish-clause-exact c =
    let short : length c.args.bytes.now ≤ TEXT_LIMIT = omega arith in
    rw c.at_line-in-Err-finish.ensures
    (ends_badly_by c.args.bytes.now c.loop-text.line c.loop-text.rest.now
    (seen c.loop-text.stage)
    c.in-Err-finish.reason short c.loop-text.invariant.one c.loop-text.invariant.reached
    c.in_default.ensures.parts c.in-Err-finish.ensures)
