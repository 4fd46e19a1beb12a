use Rattle.machine.proofs.AskSends.{ask_is_send}
use Rattle.machine.proofs.laws.an_ask_is_its_send.Goals as goal

pub returns : goal.returns
returns c = ask_is_send
