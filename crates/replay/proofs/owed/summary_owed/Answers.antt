use Rattle.replay.proofs.Owing.{drills}
use Rattle.replay.proofs.owed.summary_owed.Goals as goal

pub returns : goal.returns
returns c =
    drills c.args.seed c.args.count c.args.report c.in_ok-text.text.items c.requires c.in_ok-text.ensures
