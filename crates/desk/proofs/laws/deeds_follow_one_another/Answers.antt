use Rattle.desk.proofs.Doing.{does_more, keeps, receivers_are}
use Rattle.desk.proofs.laws.deeds_follow_one_another.Goals as goal

pub returns-clause-joined : goal.returns-clause-joined
returns-clause-joined c = does_more

pub returns-clause-address : goal.returns-clause-address
returns-clause-address c = λ st deeds. (keeps st deeds).address

pub returns-clause-partition : goal.returns-clause-partition
returns-clause-partition c = λ st deeds. (keeps st deeds).partition

pub returns-clause-frame : goal.returns-clause-frame
returns-clause-frame c = λ st deeds. (keeps st deeds).frame

pub returns-clause-receivers : goal.returns-clause-receivers
returns-clause-receivers c = receivers_are
