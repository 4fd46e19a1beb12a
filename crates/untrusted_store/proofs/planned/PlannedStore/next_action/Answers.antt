use Rattle.std.proofs.Common.{◌≡◌, None, Some, sym, ap, ◌∙◌, arith}
use Rattle.std.specs.Prelude.{slice_get}
use Rattle.std.proofs.lemmas.Bool.{ltb-true}
use Rattle.std.proofs.lemmas.Option.{slice_get-get_or, slice_get_past}
use Rattle.untrusted_store.specs.Planned.{action_at}
use Rattle.untrusted_store.proofs.Places.{action_there, action_past}
use Rattle.untrusted_store.proofs.Counts.{own_state}
use Rattle.untrusted_store.proofs.planned.PlannedStore.next_action.Goals as goal

pub returns-in-Some : goal.returns-in-Some
returns-in-Some c =
    let rows = c.self.inside.rows.items in
    let asked = c.index-asked.result.now in
    let own =
    own_state rows c.self.inside.readers.items c.args.reader asked c.self.invariant
    (omega (arith, c.ranges.reader.fits))
    c.index-asked.ensures in
    let read = c.in-Some.ensures.lookup in
    let here : slice_get rows asked.place ≡ Some c.in-Some.row.now =
    rw (← c.deref.ensures.value)
    (slice_get-get_or c.deref.result.now asked.place c.in-Some.row.now (ltb-true _ _ (sym read.0))
    ∙ ap (λ row. Some row) (sym read.1)) in
    rw (← c.self.view_is)
    (action_there rows c.args.reader asked c.in-Some.row.now own.1 here ∙ ap (action_at rows c.args.reader) own.0)

pub returns-in-None : goal.returns-in-None
returns-in-None c =
    let rows = c.self.inside.rows.items in
    let asked = c.index-asked.result.now in
    let own =
    own_state rows c.self.inside.readers.items c.args.reader asked c.self.invariant
    (omega (arith, c.ranges.reader.fits))
    c.index-asked.ensures in
    let here : slice_get rows asked.place ≡ None =
    rw (← c.deref.ensures.value) (slice_get_past c.deref.result.now asked.place c.in-None.ensures.lookup.3) in
    rw (← c.self.view_is) (action_past rows c.args.reader asked own.1 here ∙ ap (action_at rows c.args.reader) own.0)
