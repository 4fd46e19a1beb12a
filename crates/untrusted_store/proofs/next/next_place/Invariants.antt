use Rattle.std.proofs.Common.{◌≡◌, drop}
use Rattle.untrusted_store.specs.Planned.{actions}
use Rattle.untrusted_store.proofs.next.next_place.Given as goal

-- none of the rows before is the reader's
abbrev pub invariant-loop-place : goal.invariant-loop-place
invariant-loop-place l = actions (drop l.place l.rows) l.reader ≡ actions (drop l.start l.rows) l.reader
