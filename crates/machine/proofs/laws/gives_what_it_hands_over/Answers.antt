use Rattle.machine.proofs.Giving.{gives_what_it_hands}
use Rattle.machine.proofs.laws.gives_what_it_hands_over.Goals as goal

pub returns : goal.returns
returns c = gives_what_it_hands
