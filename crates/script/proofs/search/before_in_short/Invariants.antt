use Rattle.script.proofs.Searching.{IsClear}
use Rattle.script.proofs.search.before_in_short.Given as goal

abbrev pub invariant-loop-i : goal.invariant-loop-i
invariant-loop-i l = IsClear l.mark l.text l.i
