use Rattle.std.proofs.Common.{rules, ◌≡◌, ◌<◌, [], List, ℕ, Option, Some, None, false, is_some, length, set, get_or, refl, sym, ◌∙◌, ap, subst, arith}
use Rattle.std.specs.Vec.{with_item}
use Rattle.std.proofs.lemmas.List.{get_or_read}
use Rattle.std.proofs.Math.ListN.{get_or-map}
use Rattle.frame_pool.specs.PoolView.{PoolView}
use Rattle.frame_pool.specs.Pools.{chain_of, block_in, blocks_of, free_of, is_held, held_count, SameElsewhere}
use Rattle.frame_pool.specs.inside.Kept.{unheld, view_of}
use Rattle.frame_pool.specs.declared.pool.Pool.TheInside.{Inside}
use Rattle.frame_pool.proofs.Counting.{sum_below, count_denoted}
use Rattle.frame_pool.proofs.Opening.{not_returned}
use Rattle.frame_pool.proofs.Putting.{Puts, put_kept, put_block, put_free, put_others, put_count}
use Rattle.frame_pool.proofs.pool.Pool.put.Goals as goal
use Rattle.frame_pool.proofs.pool.Pool.put.Goals.{After-hold}

abbrev after : After-hold → Inside
after c = record {
  quotas = c.self.inside.quotas;
  chains = with_item c.self.inside.chains c.from.result c.hold.new.self;
  slots = c.store-slot.new.slots;
  returned = c.store-slot.new.returned;
}

none : (slots : List (List ℕ)) (o : Option ℕ) → is_some (block_in slots o) ≡ false → o ≡ None
none slots None is = refl
none slots (Some slot) is = cc

puts : (c : After-hold)
    → Puts (view_of c.self.inside) (view_of (after c)) c.args.owner c.args.place c.store-slot.result c.args.block.now
puts c =
    let i = c.self.inside in
    let k = c.self.invariant in
    let chain = chain_of (view_of i) c.args.owner in
    let owner : c.args.owner < length i.quotas.items =
    omega (arith, c.requires.owner, ap (λ (p : PoolView). length p.quotas) c.self.view_is) in
    let lt : c.from.result < length i.chains.items = omega (arith, owner, k.pool.owners, c.from.ensures) in
    let read = get_or_read i.chains.items c.from.result c.index_mut.result.now lt c.index_mut.ensures.value []
    ∙ ap (λ (n : ℕ). get_or i.chains.items n []) c.from.ensures in
    let held = c.hold.ensures
    ∙ ap (λ (chain : List (Option ℕ)). set chain c.from-2.result (Some c.store-slot.result)) read
    ∙ ap (λ (n : ℕ). set chain n (Some c.store-slot.result)) c.from-2.ensures in
    record {
      kept = k.pool;
      owner_in = owner;
      empty = none i.slots.items (get_or chain c.args.place None)
          (sym (ap is_some (get_or-map (block_in i.slots.items) chain c.args.place None))
          ∙ ap (λ (p : PoolView). is_held p c.args.owner c.args.place) c.self.view_is ∙ c.requires.empty);
      place_in = c.ranges.place.fits;
      free =
          omega (
            arith,
            c.requires.free,
            ap (λ (p : PoolView). free_of p c.args.owner) c.self.view_is,
            count_denoted i.slots.items chain,
          );
      full = search rules;
      quotas = refl;
      chains =
          ap (λ (n : ℕ). set i.chains.items n c.hold.new.self) c.from.ensures
          ∙ ap (set i.chains.items c.args.owner) held;
      stored = c.store-slot.ensures.stored;
      taken = c.store-slot.ensures.taken;
    }

pub store-slot-requires-clause-known : goal.store-slot-requires-clause-known
store-slot-requires-clause-known c =
    let i = c.self.inside in
    not_returned (view_of i) i.returned.items (length i.slots.items) c.self.invariant.pool
    (ap (unheld i.returned.items (length i.slots.items)) c.self.invariant.slots)

pub store-slot-requires-clause-free : goal.store-slot-requires-clause-free
store-slot-requires-clause-free c =
    let i = c.self.inside in
    let k = c.self.invariant in
    let less : held_count (chain_of (view_of i) c.args.owner) < get_or i.quotas.items c.args.owner 0 =
    omega (
      arith,
      c.requires.free,
      ap (λ (p : PoolView). free_of p c.args.owner) c.self.view_is,
      count_denoted i.slots.items (chain_of (view_of i) c.args.owner),
    ) in
    λ no_more. omega (
      arith,
      no_more,
      k.used,
      k.slots,
      sum_below i.chains.items i.quotas.items c.args.owner k.pool.within k.pool.owners less,
    )

pub invariant_of-self : goal.invariant_of-self
invariant_of-self c =
    let h = (goal.at.invariant_of-self c).After-hold in
    let k = c.self.invariant in
    let p = puts h in
    let old = view_of c.self.inside in
    let new = view_of (after h) in
    record {
      pool = put_kept old new c.args.owner c.args.place c.store-slot.result c.args.block.now p;
      few = k.few;
      slots = c.store-slot.ensures.slots_room ∙ k.slots;
      returned = c.store-slot.ensures.returned_room ∙ k.returned;
      used =
          omega (
            arith,
            c.store-slot.ensures.count,
            k.used,
            put_count old new c.args.owner c.args.place c.store-slot.result c.args.block.now p,
          );
    }

pub returns-clause-block : goal.returns-clause-block
returns-clause-block c =
    let h = (goal.at.returns-clause-block c).After-hold in
    let new = view_of (after h) in
    put_block (view_of c.self.inside) new c.args.owner c.args.place c.store-slot.result c.args.block.now (puts h)
    ∙ ap (λ (p : PoolView). set (blocks_of p c.args.owner) c.args.place (Some c.args.block.now)) c.self.view_is

pub returns-clause-free : goal.returns-clause-free
returns-clause-free c =
    let h = (goal.at.returns-clause-free c).After-hold in
    let new = view_of (after h) in
    put_free (view_of c.self.inside) new c.args.owner c.args.place c.store-slot.result c.args.block.now (puts h)
    ∙ ap (λ (p : PoolView). free_of p c.args.owner) c.self.view_is

pub returns-clause-others : goal.returns-clause-others
returns-clause-others c =
    let h = (goal.at.returns-clause-others c).After-hold in
    subst (λ (p : PoolView). SameElsewhere p (view_of (after h)) c.args.owner) c.self.view_is
    (put_others (view_of c.self.inside) (view_of (after h)) c.args.owner c.args.place c.store-slot.result
    c.args.block.now (puts h))

pub returns-clause-kept : goal.returns-clause-kept
returns-clause-kept c =
    let h = (goal.at.returns-clause-kept c).After-hold in
    let new = view_of (after h) in
    put_kept (view_of c.self.inside) new c.args.owner c.args.place c.store-slot.result c.args.block.now (puts h)
