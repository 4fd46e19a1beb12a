use Rattle.machine.proofs.Elsewhere.{stays_at}
use Rattle.machine.proofs.laws.elsewhere_all_stays.Goals as goal

pub returns : goal.returns
returns c = stays_at
