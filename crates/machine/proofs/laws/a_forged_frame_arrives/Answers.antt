use Rattle.machine.proofs.OneMessage.{forged}
use Rattle.machine.proofs.OneMessage.{is_forged}
use Rattle.machine.proofs.laws.a_forged_frame_arrives.Goals as goal

pub returns : goal.returns
returns c = λ m x bytes s u j i. (forged m x u bytes s u j i, is_forged m x bytes s u j i)
