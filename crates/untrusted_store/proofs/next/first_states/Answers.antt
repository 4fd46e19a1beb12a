use Rattle.std.proofs.Common.{◌≡◌, refl, arith}
use Rattle.untrusted_store.proofs.First.{first_none, first_more, first_all}
use Rattle.untrusted_store.proofs.next.first_states.Goals as goal

pub loop-place-init : goal.loop-place-init
loop-place-init c = first_none c.args.rows.now c.in_ok-readers.readers.items
    (c.in_ok-readers.ensures.items_if_clones_equal (λ y e. e))

pub loop-place-preserved : goal.loop-place-preserved
loop-place-preserved c =
    first_more c.args.rows.now c.loop-place.place _ _ c.loop-place.readers.items _ (omega arith)
    c.loop-place.auto.place refl
    (omega (arith, c.loop-place-test.element_fits.fits)) c.loop-place.invariant

pub returns-clause-ahead : goal.returns-clause-ahead
returns-clause-ahead c =
    let start : c.loop-place.place ≡ 0 = omega (arith, c.loop-place-test.false) in
    first_all c.args.rows.now c.loop-place.readers.items (rw (← start) c.loop-place.invariant)
