use Rattle.std.proofs.Common.{◌≡◌, ◌<◌, ◌-◌, [], length, ◌∙◌, ap, arith}
use Rattle.std.proofs.lemmas.List.{get_or_read}
use Rattle.frame_pool.specs.PoolView.{PoolView}
use Rattle.frame_pool.specs.Pools.{chain_of, free_of, held_count}
use Rattle.frame_pool.specs.inside.Kept.{view_of}
use Rattle.frame_pool.proofs.Counting.{count_denoted}
use Rattle.frame_pool.proofs.pool.Pool.free.Goals as goal

pub returns : goal.returns
returns c =
    let i = c.self.inside in
    let k = c.from-owner.result in
    let lt : k < length i.quotas.items =
    omega (arith, c.requires, c.from-owner.ensures, ap (λ (p : PoolView). length p.quotas) c.self.view_is) in
    let quota = get_or_read i.quotas.items k c.index.result.now lt c.index.ensures 0 in
    let chain = get_or_read i.chains.items k c.index-2.result.now (omega (arith, lt, c.self.invariant.pool.owners))
    c.index-2.ensures [] in
    let own : c.index.result.now - c.held.result ≡ free_of (view_of i) k =
    omega (
      arith,
      quota,
      ap held_count chain,
      c.held.ensures,
      count_denoted i.slots.items (chain_of (view_of i) k),
    ) in
    own ∙ ap (free_of (view_of i)) c.from-owner.ensures ∙ ap (λ (p : PoolView). free_of p c.args.owner) c.self.view_is
