use Rattle.desk.proofs.Doing.{hearings_more}
use Rattle.desk.proofs.Turning.{as_many, inbound_more}
use Rattle.desk.proofs.laws.frames_come_one_by_one.Goals as goal

pub returns-clause-as_many : goal.returns-clause-as_many
returns-clause-as_many c = as_many

pub returns-clause-joined : goal.returns-clause-joined
returns-clause-joined c = inbound_more

pub returns-clause-deeds : goal.returns-clause-deeds
returns-clause-deeds c = hearings_more
