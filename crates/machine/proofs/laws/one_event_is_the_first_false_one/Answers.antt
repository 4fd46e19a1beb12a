use Rattle.machine.proofs.FirstFalse.{first_once}
use Rattle.machine.proofs.laws.one_event_is_the_first_false_one.Goals as goal

pub returns : goal.returns
returns c = first_once
