use Rattle.std.proofs.Common.{Some, ap, ◌∙◌, arith}
use Rattle.untrusted_store.specs.Telling.{one_more, with_question}
use Rattle.untrusted_store.specs.Planned.{asked_by}
use Rattle.untrusted_store.proofs.Counts.{counts-set, own_state}
use Rattle.untrusted_store.proofs.planned.PlannedStoreStore.get.Goals as goal

pub returns-clause-ok : goal.returns-clause-ok
returns-clause-ok c =
    let readers = c.self.inside.readers.items in
    let own =
    own_state c.self.inside.rows.items readers c.args.reader c.index-asked.result.now c.self.invariant
    (omega (arith, c.ranges.reader.fits)) c.index-asked.ensures in
    ap Some (counts-set readers c.args.reader c.asked_more.result
    (omega (arith, c.self.invariant.all, c.ranges.reader.fits))
    (c.asked_more.ensures.count ∙ ap one_more own.0))
    ∙ ap (λ s. Some (with_question c.args.reader (asked_by s))) c.self.view_is
