use Rattle.std.proofs.Common.{length}
use Rattle.frame.proofs.Cutting.{one_at_least}
use Rattle.frame.proofs.Joining.{each_part, first_parts, pieces_reach}
use Rattle.frame.proofs.laws.pieces_carry_their_message.Goals as goal

pub returns-clause-each : goal.returns-clause-each
returns-clause-each c = each_part

pub returns-clause-joined : goal.returns-clause-joined
returns-clause-joined c = first_parts

pub returns-clause-reached : goal.returns-clause-reached
returns-clause-reached c = pieces_reach

pub returns-clause-some : goal.returns-clause-some
returns-clause-some c = λ body. one_at_least (length body)
