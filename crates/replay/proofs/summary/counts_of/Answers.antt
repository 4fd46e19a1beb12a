use Rattle.replay.proofs.Counting.{counted_more}
use Rattle.replay.proofs.summary.counts_of.Goals as goal

pub loop-line-preserved : goal.loop-line-preserved
loop-line-preserved c =
    let counts = c.loop-line.counts in
    let new = c.add.new.self in
    counted_more c.args.lines.now c.loop-line.line-index c.line-item.result counts.sent counts.given counts.bytes
    new.sent new.given new.bytes c.loop-line-test.true c.line-item.is c.loop-line.invariant c.add.ensures.sent
    c.add.ensures.given c.add.ensures.bytes c.add.ensures.most
