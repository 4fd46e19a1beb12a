use Rattle.std.proofs.Common.{◌∙◌}
use Rattle.frame_pool.specs.declared.pool.Pool.TheInside.{Inside}
use Rattle.frame_pool.proofs.Opening.{Opens, opened_kept}
use Rattle.frame_pool.proofs.pool.Pool.open.Goals as goal
use Rattle.frame_pool.proofs.pool.Pool.open.Goals.{In_ok-quotas}

abbrev made : In_ok-quotas → Inside
made c = record {
  quotas = c.in_ok-quotas.quotas;
  chains = c.in_ok-chains.chains;
  slots = c.in_ok-slots.slots;
  returned = c.in_ok-returned.returned;
}

opens : (c : In_ok-quotas) → Opens (made c) c.args.quotas.now
opens c = record {
  few = c.requires.slots;
  quotas_are = c.in_ok-quotas.ensures.items;
  chains = c.in_ok-chains.ensures;
  slots = c.in_ok-slots.ensures.items;
  returned = c.in_ok-returned.ensures.items;
  slot_room = c.in_ok-slots.ensures.exact ∙ c.slot_count-count.ensures;
  returned_room = c.in_ok-returned.ensures.exact ∙ c.slot_count-count.ensures;
}

pub invariant_of-result : goal.invariant_of-result
invariant_of-result c =
    let h = (goal.at.invariant_of-result c).In_ok-quotas in opened_kept (made h) c.args.quotas.now (opens h)

pub returns-clause-kept : goal.returns-clause-kept
returns-clause-kept c =
    let h = (goal.at.returns-clause-kept c).In_ok-quotas in
    let kept = opened_kept (made h) c.args.quotas.now (opens h) in
    kept.pool
