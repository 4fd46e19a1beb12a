use Rattle.std.proofs.Common.{◌≡◌, ◌+◌, ◌-◌, ◌*◌, List, ℕ, Option, length, map, take, drop, ◌∙◌, ap, ap₂, subst, arith}
use Rattle.std.proofs.lemmas.List.{length-take, length-drop}
use Rattle.frame_pool.specs.PoolView.{PoolView}
use Rattle.frame_pool.specs.Pools.{block_in, denoted, IsPool}
use Rattle.frame_pool.specs.inside.Kept.{bytes_at}
use Rattle.frame_pool.proofs.Blocks.{block_at, blocks_full, place_small}
use Rattle.frame_pool.proofs.Copying.{begins_within, copied_more}
use Rattle.frame_pool.proofs.pool.Pool.copy_part.Goals as goal

same_bytes : (slots now : List (List ℕ)) (chain : List (Option ℕ)) (from first i : ℕ) → slots ≡ now → from ≡ first
    → bytes_at slots chain (from + i) ≡ block_at (map (block_in now) chain) (first + i)
same_bytes slots now chain from first i same is =
    ap₂ (λ (slots : List (List ℕ)) (k : ℕ). bytes_at slots chain (k + i)) same is

pub copy_front-requires-clause-place : goal.copy_front-requires-clause-place
copy_front-requires-clause-place c =
    let pool = c.args.self.now in
    let kept = subst IsPool c.self.view_is c.self.invariant.pool in
    let within = begins_within (length c.args.out.now) c.loop-i.i c.div_ceil-i-end.result c.div_ceil-i-end.ensures
    c.loop-i-test.true in
    let small = place_small pool kept c.requires.own.0 (c.args.first + c.loop-i.i) c.args.chain.now c.requires.own.1
    (c.requires.held c.loop-i.i within) in
    omega (arith, small, c.from.ensures)

pub copy_front-requires-clause-held : goal.copy_front-requires-clause-held
copy_front-requires-clause-held c =
    let pool = c.args.self.now in
    let chain = c.args.chain.now in
    let kept = subst IsPool c.self.view_is c.self.invariant.pool in
    let within = begins_within (length c.args.out.now) c.loop-i.i c.div_ceil-i-end.result c.div_ceil-i-end.ensures
    c.loop-i-test.true in
    let slots = c.deref-slots.ensures.value ∙ ap (λ (p : PoolView). p.slots) c.self.view_is in
    ap length
    (same_bytes c.deref-slots.result.now pool.slots chain c.from.result c.args.first c.loop-i.i slots c.from.ensures)
    ∙ blocks_full pool kept c.requires.own.0 chain c.requires.own.1 (c.args.first + c.loop-i.i)
    (c.requires.held c.loop-i.i within)

pub loop-i-preserved : goal.loop-i-preserved
loop-i-preserved c =
    let pool = c.args.self.now in
    let chain = c.args.chain.now in
    let places = denoted pool chain in
    let out = c.loop-i.out in
    let i = c.loop-i.i in
    let n = length c.args.out.now in
    let end = c.min-end.result in
    let kept = subst IsPool c.self.view_is c.self.invariant.pool in
    let within = begins_within n i c.div_ceil-i-end.result c.div_ceil-i-end.ensures c.loop-i-test.true in
    let long : length out ≡ n = c.loop-i.auto.out in
    let slots = c.deref-slots.ensures.value ∙ ap (λ (p : PoolView). p.slots) c.self.view_is in
    let size : length (take (end - 88 * i) (drop (88 * i) out)) ≡ end - 88 * i =
    omega (
      arith,
      length-take (end - 88 * i) (drop (88 * i) out),
      length-drop (88 * i) out,
      long,
      within,
      c.min-end.ensures,
    ) in
    copied_more places c.args.first i n end out c.copy_front.new.out
    (blocks_full pool kept c.requires.own.0 chain c.requires.own.1)
    (λ k lt. c.requires.held k (omega (arith, lt, within))) long within c.min-end.ensures
    (c.copy_front.ensures
    ∙ ap₂ take size
    (same_bytes c.deref-slots.result.now pool.slots chain c.from.result c.args.first i slots c.from.ensures))
    c.loop-i.invariant
