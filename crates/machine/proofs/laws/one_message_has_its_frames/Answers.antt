use Rattle.machine.proofs.Coming.{sends_nothing, sends_one}
use Rattle.machine.proofs.laws.one_message_has_its_frames.Goals as goal

pub returns : goal.returns
returns c = record { nothing = sends_nothing; one = sends_one }
