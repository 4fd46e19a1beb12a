use Rattle.desk.proofs.Calls.{address_at, partition_at, frame_at}
use Rattle.desk.proofs.laws.desks_have_the_names_of_their_states.Goals as goal

pub returns-clause-address : goal.returns-clause-address
returns-clause-address c = address_at

pub returns-clause-partition : goal.returns-clause-partition
returns-clause-partition c = partition_at

pub returns-clause-frame : goal.returns-clause-frame
returns-clause-frame c = frame_at
