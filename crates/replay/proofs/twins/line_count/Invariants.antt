use Rattle.std.proofs.Common.{◌≡◌, ◌≤◌, take}
use Rattle.replay.specs.Twins.{line_count}
use Rattle.replay.proofs.twins.line_count.Given as goal

abbrev pub invariant-loop-c : goal.invariant-loop-c
invariant-loop-c l = record {
  count : l.count ≡ line_count (take l.c-index l.text);
  most : l.count ≤ l.c-index;
}
