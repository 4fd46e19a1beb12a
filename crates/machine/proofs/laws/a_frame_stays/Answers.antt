use Rattle.machine.proofs.ManagerReplies.{frame_still}
use Rattle.machine.proofs.laws.a_frame_stays.Goals as goal

pub returns : goal.returns
returns c = frame_still
