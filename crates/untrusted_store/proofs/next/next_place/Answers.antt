use Rattle.std.proofs.Common.{length, arith}
use Rattle.untrusted_store.proofs.Places.{own_row, at_end}
use Rattle.untrusted_store.proofs.next.next_place.Goals as goal

pub returns-then-rows-place-clause-next : goal.returns-then-rows-place-clause-next
returns-then-rows-place-clause-next c =
    own_row c.args.rows.now c.loop-place.place c.args.reader _ c.loop-place-test.true c.if-rows-place.true

pub returns-clause-next : goal.returns-clause-next
returns-clause-next c = at_end c.args.rows.now (length c.args.rows.now) c.args.reader (omega arith)
