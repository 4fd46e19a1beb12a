use Rattle.replay.proofs.Owing.{shows}
use Rattle.replay.proofs.owed.report_owed.Goals as goal

pub returns : goal.returns
returns c = shows c.args.shown c.args.report c.in_ok-text.text.items c.requires c.in_ok-text.ensures
