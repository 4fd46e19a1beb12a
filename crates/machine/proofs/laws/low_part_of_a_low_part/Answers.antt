use Rattle.machine.proofs.Levels.{low_of_low}
use Rattle.machine.proofs.laws.low_part_of_a_low_part.Goals as goal

pub returns : goal.returns
returns c = low_of_low
