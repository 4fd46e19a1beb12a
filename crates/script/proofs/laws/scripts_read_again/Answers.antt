use Rattle.script.proofs.Again.{reads_again}
use Rattle.script.proofs.laws.scripts_read_again.Goals as goal

pub returns : goal.returns
returns c = reads_again
