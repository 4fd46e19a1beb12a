use Rattle.machine.proofs.Coming.{given_by_partners}
use Rattle.machine.proofs.FramesApart.{partners_of_sent}
use Rattle.machine.proofs.laws.partners_alone_are_sent_to.Goals as goal

pub returns : goal.returns
returns c = record { given = given_by_partners; sent = partners_of_sent }
