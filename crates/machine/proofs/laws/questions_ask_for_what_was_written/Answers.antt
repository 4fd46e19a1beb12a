use Rattle.machine.proofs.Asked.{asks_for_written}
use Rattle.machine.proofs.laws.questions_ask_for_what_was_written.Goals as goal

pub returns : goal.returns
returns c = asks_for_written
