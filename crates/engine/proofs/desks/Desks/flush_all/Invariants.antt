use Rattle.engine.proofs.Flushing.{FlushedBelow}
use Rattle.engine.proofs.desks.Desks.flush_all.Given as goal

abbrev pub invariant-loop-slot : goal.invariant-loop-slot
invariant-loop-slot g l = FlushedBelow g.S.Seal.sealed_text l.slot l.fn.self l.self
