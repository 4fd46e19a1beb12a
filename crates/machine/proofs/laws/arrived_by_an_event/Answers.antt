use Rattle.machine.proofs.Arrivals.{in_set, of_set}
use Rattle.machine.proofs.laws.arrived_by_an_event.Goals as goal

pub returns : goal.returns
returns c = λ script n s u j i le. (in_set script n s u j i le, of_set script n s u j i le)
