use Rattle.std.proofs.Common.{◌<◌, [], length, sym, ◌∙◌, ap, arith}
use Rattle.std.proofs.lemmas.List.{get_or_read}
use Rattle.frame_pool.specs.PoolView.{PoolView}
use Rattle.frame_pool.specs.Pools.{chain_of}
use Rattle.frame_pool.specs.inside.Kept.{view_of}
use Rattle.frame_pool.proofs.Emptying.{emptied_all}
use Rattle.frame_pool.proofs.Giving.{GivesBack, gives, given_kept, own_chain, with_chain}
use Rattle.frame_pool.proofs.pool.Pool.clear.Goals as goal
use Rattle.frame_pool.proofs.pool.Pool.clear.Goals.{After-give_back}

back : (c : After-give_back)
    → GivesBack c.self.inside c.from.result 0 256 c.index_mut-chain.result.now c.give_back.new.chain
    c.give_back.new.returned
back c =
    let i = c.self.inside in
    let owner : c.from.result < length i.quotas.items =
    omega (arith, c.requires, ap (λ (p : PoolView). length p.quotas) c.self.view_is, c.from.ensures) in
    record {
      owner_in = owner;
      part = omega arith;
      was =
          get_or_read i.chains.items c.from.result c.index_mut-chain.result.now
          (omega (arith, owner, c.self.invariant.pool.owners)) c.index_mut-chain.ensures.value [];
      chain = c.give_back.ensures.chain;
      slots = c.give_back.ensures.slots;
      counted = c.give_back.ensures.count;
      room = c.give_back.ensures.room;
    }

pub invariant_of-self : goal.invariant_of-self
invariant_of-self c =
    given_kept c.self.inside c.from.result 0 256 c.index_mut-chain.result.now c.give_back.new.chain
    c.give_back.new.returned c.self.invariant (back (goal.at.invariant_of-self c).After-give_back)

pub returns-clause-chain : goal.returns-clause-chain
returns-clause-chain c =
    let i = c.self.inside in
    let b = back (goal.at.returns-clause-chain c).After-give_back in
    let new = with_chain i c.from.result c.give_back.new.chain c.give_back.new.returned in
    let g = gives i c.from.result 0 256 c.index_mut-chain.result.now c.give_back.new.chain c.give_back.new.returned
    c.self.invariant b in
    ap (chain_of (view_of new)) (sym c.from.ensures)
    ∙ own_chain (view_of i) (view_of new) c.from.result 0 256 g
    ∙ emptied_all (chain_of (view_of i) c.from.result) (c.self.invariant.pool.places c.from.result b.owner_in)

pub returns-clause-kept : goal.returns-clause-kept
returns-clause-kept c =
    let kept = given_kept c.self.inside c.from.result 0 256 c.index_mut-chain.result.now c.give_back.new.chain
    c.give_back.new.returned c.self.invariant (back (goal.at.returns-clause-kept c).After-give_back) in
    kept.pool
