use Rattle.machine.proofs.Coming.{hands_nothing, hands_one}
use Rattle.machine.proofs.laws.what_is_handed_over.Goals as goal

pub returns : goal.returns
returns c = record { nothing = hands_nothing; one = hands_one }
