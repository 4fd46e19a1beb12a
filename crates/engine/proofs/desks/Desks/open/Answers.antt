use Rattle.std.proofs.Common.{◌≡◌, ◌+◌, sym, subst, arith, rules}
use Rattle.engine.specs.Slots.{HasSlot}
use Rattle.engine.specs.inside.Standing.{StartsAt}
use Rattle.engine.proofs.Starting.{StartBelow, one_starts, all_start, slot_has}
use Rattle.engine.proofs.desks.Desks.open.Goals as goal

pub open_desk-requires-clause-slot : goal.open_desk-requires-clause-slot
open_desk-requires-clause-slot g c κs within =
    subst HasSlot (sym c.party_of.ensures) (slot_has c.loop-slot.slot (omega arith))

pub loop-slot-preserved : goal.loop-slot-preserved
loop-slot-preserved g c =
    let before = c.loop-slot.slots.items in
    let desk = c.in_ok-desk.desk in
    let sealed = g.S.Seal.sealed_text in
    record {
      count = search rules;
      start = subst (StartBelow sealed c.args.roster.now (c.loop-slot.slot + 1)) (sym c.in_ok-push.ensures.items)
          (one_starts sealed c.args.roster.now c.loop-slot.slot before desk c.loop-slot.invariant.count
          c.loop-slot.invariant.start
          (λ m of. subst (λ u. StartsAt m u desk) c.party_of.ensures (c.in_ok-desk.ensures m of)));
    }

pub returns : goal.returns
returns g c =
    let all : c.loop-slot.slot ≡ 512 = omega arith in
    λ m of. all_start g.S.Seal.sealed_text c.args.roster.now c.loop-slot.slots.items
    (subst (λ n. StartBelow g.S.Seal.sealed_text c.args.roster.now n c.loop-slot.slots.items) all
    c.loop-slot.invariant.start) m of
