use Rattle.std.proofs.Common.{◌<◌, [], ℕ, length, sym, ◌∙◌, ap, ap₂, arith}
use Rattle.std.proofs.lemmas.List.{get_or_read}
use Rattle.frame_pool.specs.PoolView.{PoolView}
use Rattle.frame_pool.specs.Pools.{blocks_of, without}
use Rattle.frame_pool.specs.inside.Kept.{emptied, view_of}
use Rattle.frame_pool.proofs.Giving.{GivesBack, gives, given_kept, give_blocks, with_chain}
use Rattle.frame_pool.proofs.pool.Pool.clear_part.Goals as goal
use Rattle.frame_pool.proofs.pool.Pool.clear_part.Goals.{After-give_back}

back : (c : After-give_back)
    → GivesBack c.self.inside c.from.result c.args.first c.args.count c.index_mut-chain.result.now
    c.give_back.new.chain c.give_back.new.returned
back c =
    let i = c.self.inside in
    let owner : c.from.result < length i.quotas.items =
    omega (arith, c.requires.owner, ap (λ (p : PoolView). length p.quotas) c.self.view_is, c.from.ensures) in
    record {
      owner_in = owner;
      part = c.requires.places;
      was =
          get_or_read i.chains.items c.from.result c.index_mut-chain.result.now
          (omega (arith, owner, c.self.invariant.pool.owners)) c.index_mut-chain.ensures.value [];
      chain =
          c.give_back.ensures.chain
          ∙ ap₂ (emptied c.index_mut-chain.result.now) c.from-first.ensures c.from-count.ensures;
      slots = c.give_back.ensures.slots;
      counted = c.give_back.ensures.count;
      room = c.give_back.ensures.room;
    }

pub invariant_of-self : goal.invariant_of-self
invariant_of-self c =
    given_kept c.self.inside c.from.result c.args.first c.args.count c.index_mut-chain.result.now c.give_back.new.chain
    c.give_back.new.returned c.self.invariant (back (goal.at.invariant_of-self c).After-give_back)

pub returns-clause-blocks : goal.returns-clause-blocks
returns-clause-blocks c =
    let i = c.self.inside in
    let new = with_chain i c.from.result c.give_back.new.chain c.give_back.new.returned in
    let g = gives i c.from.result c.args.first c.args.count c.index_mut-chain.result.now c.give_back.new.chain
    c.give_back.new.returned c.self.invariant (back (goal.at.returns-clause-blocks c).After-give_back) in
    ap (blocks_of (view_of new)) (sym c.from.ensures)
    ∙ give_blocks (view_of i) (view_of new) c.from.result c.args.first c.args.count g
    ∙ ap₂ (λ (p : PoolView) (owner : ℕ). without (blocks_of p owner) c.args.first c.args.count) c.self.view_is
    c.from.ensures

pub returns-clause-kept : goal.returns-clause-kept
returns-clause-kept c =
    let kept = given_kept c.self.inside c.from.result c.args.first c.args.count c.index_mut-chain.result.now
    c.give_back.new.chain c.give_back.new.returned c.self.invariant
    (back (goal.at.returns-clause-kept c).After-give_back) in
    kept.pool
