use Rattle.frame.proofs.Unsealing.{length-frame, one_framed}
use Rattle.frame.proofs.laws.each_piece_has_a_frame_of_its_own.Goals as goal

pub returns-clause-length : goal.returns-clause-length
returns-clause-length c = length-frame

pub returns-clause-apart : goal.returns-clause-apart
returns-clause-apart c = one_framed
