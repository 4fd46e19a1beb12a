use Rattle.desk.proofs.Batched.{flushed, flushed_twice, one_turn}
use Rattle.desk.proofs.laws.flushed_batches_are_empty.Goals as goal

pub returns-clause-empty : goal.returns-clause-empty
returns-clause-empty c = flushed

pub returns-clause-twice : goal.returns-clause-twice
returns-clause-twice c = flushed_twice

pub returns-clause-turns : goal.returns-clause-turns
returns-clause-turns c = one_turn
