use Rattle.std.proofs.Common.{◌<◌, length, ap, arith, inl, inr}
use Rattle.frame_pool.specs.Pools.{times}
use Rattle.frame_pool.proofs.Times.{times_last}
use Rattle.frame_pool.proofs.Blocks.{lt_or_le, stores_at}
use Rattle.frame_pool.proofs.pool.store.Goals as goal
use Rattle.frame_pool.proofs.pool.store.Goals.{In-Some}

used : (c : In-Some) → c.in-Some.slot < length c.args.slots.now.items
used c =
    elim (lt_or_le c.in-Some.slot (length c.args.slots.now.items)) [
      | inl lt ↦ lt
      | inr le ↦
          absurd
          (omega (
            arith,
            c.requires.known c.in-Some.slot le,
            ap (times c.in-Some.slot) c.in-Some.ensures.items,
            times_last c.in-Some.slot c.pop.new.self.items,
          ))
    ]

pub index_mut-requires : goal.index_mut-requires
index_mut-requires c =
    omega (arith, used (goal.at.index_mut-requires c).In-Some, c.from.ensures, c.args.slots.now.ok.0)

pub returns-in-Some-clause-stored : goal.returns-in-Some-clause-stored
returns-in-Some-clause-stored c =
    stores_at c.args.slots.now.items c.from.result c.in-Some.slot c.args.block.now c.from.ensures
    (used (goal.at.returns-in-Some-clause-stored c).In-Some)

pub returns-in-Some-clause-small : goal.returns-in-Some-clause-small
returns-in-Some-clause-small c =
    omega (
      arith,
      used (goal.at.returns-in-Some-clause-small c).In-Some,
      c.args.slots.now.ok.0,
      c.args.slots.now.ok.1,
      c.requires.few,
    )
