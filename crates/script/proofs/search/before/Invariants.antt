use Rattle.std.proofs.Common.{◌-◌, ◌+◌, ◌<◌}
use Rattle.script.proofs.Searching.{IsClear}
use Rattle.script.proofs.search.before.Given as goal

abbrev pub invariant-loop-at : goal.invariant-loop-at
invariant-loop-at l = record {
  clear : IsClear l.mark l.text l.at;
  near : l.at < l.last + 32;
}

abbrev pub decreases-loop-at : goal.decreases-loop-at
decreases-loop-at l = l.last - l.at
