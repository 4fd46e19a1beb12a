use Rattle.std.proofs.Common.{ap, sym, ◌∙◌, map}
use Rattle.std.specs.Prelude.{sum}
use Rattle.engine.specs.inside.Kept.{counted_by}
use Rattle.unit_core.specs.Tallies.{capped}
use Rattle.engine.specs.Reports.{turns_of}
use Rattle.engine.proofs.Counting.{turns_counted, no_turns, counts_one, counts_none, counts_all}
use Rattle.engine.proofs.report.Report.turns.Goals as goal
use Rattle.engine.proofs.report.Report.turns.Goals.{in-Some, in_default}

pub loop-tally-init : goal.loop-tally-init
loop-tally-init c = no_turns

pub loop-tally-preserved : goal.loop-tally-preserved
loop-tally-preserved c =
    let tallies = c.deref-tally-items.result.now in
    let tally = c.tally-item.result in
    elim c.match-tally.branch [
      | in-Some w ↦
          w.turns-is ∙ w.saturating_add-turns.ensures
          ∙ counts_one c.loop-tally.tally-index tallies tally c.loop-tally.turns w.turns.result
          c.loop-tally-test.true c.tally-item.is c.loop-tally.invariant
          (w.turns.ensures ∙ ap turns_counted (sym w.in-Some.is))
      | in_default w ↦
          w.turns-is ∙ counts_none c.loop-tally.tally-index tallies tally c.loop-tally.turns
          c.loop-tally-test.true c.tally-item.is c.loop-tally.invariant w.in_default.is
    ]

pub returns : goal.returns
returns c =
    let tallies = c.deref-tally-items.result.now in
    counts_all c.loop-tally.tally-index tallies c.loop-tally.turns c.loop-tally-test.false
    c.loop-tally.invariant
    ∙ ap (λ ts. capped (sum (map (λ tally. tally.turns) (map counted_by ts)))) c.deref-tally-items.ensures.value
    ∙ ap (λ report. capped (turns_of report)) c.self.view_is
