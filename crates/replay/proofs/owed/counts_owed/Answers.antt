use Rattle.replay.proofs.Owing.{counts}
use Rattle.replay.proofs.owed.counts_owed.Goals as goal

pub returns : goal.returns
returns c = counts c.args.script.now c.in_ok-check_line.field-0.items c.in_ok-check_line.ensures
