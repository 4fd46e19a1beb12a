use Rattle.std.proofs.Common.{◌+◌, ◌-◌, ◌≤◌, ◌<◌, length}
use Rattle.script.specs.inside.Stages.{seen, IsSound}
use Rattle.script.proofs.Reached.{Reached}
use Rattle.script.proofs.read.read_script.Given as goal

abbrev pub invariant-loop-text : goal.invariant-loop-text
invariant-loop-text l = record {
  reached : Reached l.bytes (l.line - 1) l.rest (seen l.stage);
  sound : IsSound l.stage;
  counted : l.line + length l.rest ≤ length l.bytes + 1;
  one : 0 < l.line;
}

abbrev pub decreases-loop-text : goal.decreases-loop-text
decreases-loop-text l = length l.rest
