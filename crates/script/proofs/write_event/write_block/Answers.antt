use Rattle.std.proofs.Common.{append_assoc, rules}
use Rattle.script.proofs.write_event.write_block.Goals as goal

pub returns : goal.returns
returns c = search (rules, append_assoc)
