use Rattle.std.proofs.Common.{◌≡◌}
use Rattle.unit_core.specs.Tallies.{capped}
use Rattle.engine.proofs.Counting.{turns_in}
use Rattle.engine.proofs.report.Report.turns.Given as goal

abbrev pub invariant-loop-tally : goal.invariant-loop-tally
invariant-loop-tally l = l.turns ≡ capped (turns_in l.tally-index l.tally-items)
