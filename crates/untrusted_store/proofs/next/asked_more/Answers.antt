use Rattle.std.proofs.Common.{sym, ap, ◌∙◌}
use Rattle.untrusted_store.specs.Planned.{actions}
use Rattle.untrusted_store.proofs.Plans.{nothing_left}
use Rattle.untrusted_store.proofs.Places.{one_taken, still_nothing, one_less}
use Rattle.untrusted_store.proofs.next.asked_more.Goals as goal

pub returns-then-place-rows-clause-ahead : goal.returns-then-place-rows-clause-ahead
returns-then-place-rows-clause-ahead c =
    let rows = c.args.rows.now in
    let taken = one_taken rows c.args.reader c.args.asked.place c.if-place-rows.true c.requires.ahead.next in
    record {
      left =
          c.next_place-place.ensures.same
          ∙ sym (one_less rows c.args.reader c.args.asked.count c.saturating_add-count.result taken.0 _
          (sym c.requires.ahead.left ∙ taken.1) c.requires.few c.saturating_add-count.ensures);
      next = c.next_place-place.ensures.next;
    }

pub returns-clause-ahead : goal.returns-clause-ahead
returns-clause-ahead c =
    let rows = c.args.rows.now in
    let none = ap (λ rest. actions rest c.args.reader) (nothing_left rows c.args.asked.place c.if-place-rows.false) in
    record {
      left =
          none ∙ sym (still_nothing rows c.args.reader c.args.asked.count c.saturating_add-count.result
          (sym c.requires.ahead.left ∙ none) c.requires.few c.saturating_add-count.ensures);
      next = c.requires.ahead.next;
    }
