use Rattle.machine.proofs.ReadDown.{reads_down}
use Rattle.machine.proofs.laws.files_are_read_down.Goals as goal

pub returns : goal.returns
returns c = reads_down
