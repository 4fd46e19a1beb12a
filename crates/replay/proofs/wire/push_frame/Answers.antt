use Rattle.std.proofs.Common.{append_assoc, rules}
use Rattle.replay.proofs.wire.push_frame.Goals as goal

pub returns : goal.returns
returns c = search (rules, append_assoc)
