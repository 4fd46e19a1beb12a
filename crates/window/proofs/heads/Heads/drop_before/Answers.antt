use Rattle.std.proofs.Common.{◌+◌, None, get_or, sym, ◌∙◌, ap}
use Rattle.window.specs.inside.Quarters.{is_before}
use Rattle.window.proofs.Dropping.{drop_step, keep_step, Dropped, moved}
use Rattle.window.proofs.heads.Heads.drop_before.Goals as goal
use Rattle.window.proofs.heads.Heads.drop_before.Goals.{then-is_before, else-is_before}

pub loop-quarter-preserved : goal.loop-quarter-preserved
loop-quarter-preserved c =
    let inv = c.loop-quarter.invariant in
    let q = c.loop-quarter.quarter in
    let d : Dropped c.args.self.now c.loop-quarter.self c.args.pool.now c.loop-quarter.pool q c.args.least =
    record { keeps = inv.keeps; turns = inv.turns; held = inv.held } in
    let n : Dropped c.args.self.now c.if-is_before.self c.args.pool.now c.if-is_before.pool (q + 1) c.args.least =
    elim c.if-is_before.branch [
      | then-is_before w ↦
          moved (sym w.self-is) (sym w.pool-is) (drop_step d c.loop-quarter-test.true
          (ap (λ k. is_before c.args.least (get_or c.loop-quarter.self.heads k None)) (sym c.from.ensures)
          ∙ sym c.is_before.ensures ∙ w.if-is_before.true)
          w.clear.ensures.keeps w.clear.ensures.turns w.clear.ensures.held)
      | else-is_before w ↦
          moved (sym w.self-is) (sym w.pool-is) (keep_step d c.loop-quarter-test.true
          (ap (λ k. is_before c.args.least (get_or c.loop-quarter.self.heads k None)) (sym c.from.ensures)
          ∙ sym c.is_before.ensures ∙ w.if-is_before.false))
    ] in
    record { keeps = n.keeps; turns = n.turns; held = n.held }
