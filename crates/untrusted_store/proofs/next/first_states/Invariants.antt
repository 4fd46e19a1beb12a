use Rattle.untrusted_store.proofs.First.{AreFirst}
use Rattle.untrusted_store.proofs.next.first_states.Given as goal

abbrev pub invariant-loop-place : goal.invariant-loop-place
invariant-loop-place l = AreFirst l.rows l.place l.readers.items
