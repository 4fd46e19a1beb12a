use Rattle.std.proofs.Common.{◌≡◌, ◌+◌, ◌-◌, ◌<◌, ◌∷◌, [], List, ℕ, Option, None, length, set, get_or, vec_capacity, sym, ◌∙◌, ap, arith}
use Rattle.std.specs.Global.{Vec}
use Rattle.std.proofs.lemmas.List.{set-get_or}
use Rattle.frame_pool.specs.Pools.{times, slots_in, held_count}
use Rattle.frame_pool.specs.inside.Kept.{emptied}
use Rattle.frame_pool.proofs.Counting.{count_let_go}
use Rattle.frame_pool.proofs.Emptying.{emptied_rest, emptied_more}
use Rattle.frame_pool.proofs.Times.{times-append, times_alone, times_let_go}
use Rattle.frame_pool.proofs.pool.give_back.Goals as goal
use Rattle.frame_pool.proofs.pool.give_back.Goals.{in-Some, in_default}

stays : (chain : List (Option ℕ)) (place : ℕ) → get_or chain place None ≡ None → set chain place None ≡ chain
stays chain place none = ap (set chain place) (sym none) ∙ set-get_or chain place None

pub returns-then-held-eq0-clause-chain : goal.returns-then-held-eq0-clause-chain
returns-then-held-eq0-clause-chain c =
    let was = c.loop-place.invariant in
    was.chain
    ∙ emptied_rest c.args.chain.now c.args.first (c.loop-place.place - c.args.first) c.args.count
    (omega (arith, c.requires.chain, c.requires.places))
    (omega (arith, c.loop-place.auto.place-end))
    (sym (ap (held_count {A = ℕ}) was.chain) ∙ sym c.held.ensures ∙ omega (arith, c.if-held-eq0.true))

pub push_reserved-requires : goal.push_reserved-requires
push_reserved-requires c =
    let was = c.loop-place.invariant in
    omega (
      arith,
      was.count,
      was.room,
      c.requires.room,
      count_let_go c.loop-place.chain c.loop-place.place c.in-Some.slot (sym c.in-Some.ensures.slot),
      c.loop-place.returned.ok.0,
    )

pub loop-place-preserved : goal.loop-place-preserved
loop-place-preserved c =
    let was = c.loop-place.invariant in
    let chain = c.loop-place.chain in
    let place = c.loop-place.place in
    let first = c.args.first in
    let long : first + (place - first) < length c.args.chain.now =
    omega (arith, c.requires.chain, c.requires.places, c.loop-place-test.true, c.loop-place.auto.place) in
    let here : place ≡ first + (place - first) = omega (arith, c.loop-place.auto.place) in
    let more : place - first + 1 ≡ place + 1 - first = omega (arith, c.loop-place.auto.place) in
    record {
      chain =
          c.let_go.ensures.chain ∙ ap (λ (ps : List (Option ℕ)). set ps place None) was.chain
          ∙ emptied_more c.args.chain.now first (place - first) place long here
          ∙ ap (emptied c.args.chain.now first) more;
      slots = λ k. elim c.match-let_go.branch [
        | in-Some w ↦
            omega (
              arith,
              was.slots k,
              ap (λ (v : Vec ℕ). times k v.items) w.returned-is,
              ap (times k) w.push_reserved.ensures.items,
              times-append k c.loop-place.returned.items (w.in-Some.slot ∷ []),
              times_alone k w.in-Some.slot,
              times_let_go k chain place w.in-Some.slot (sym w.in-Some.ensures.slot),
              ap (λ (ps : List (Option ℕ)). times k (slots_in ps)) c.let_go.ensures.chain,
            )
        | in_default w ↦
            omega (
              arith,
              was.slots k,
              ap (λ (v : Vec ℕ). times k v.items) w.returned-is,
              ap (λ (ps : List (Option ℕ)). times k (slots_in ps))
                  (c.let_go.ensures.chain ∙ stays chain place (sym c.let_go.ensures.slot ∙ w.in_default.is)),
            )
      ];
      count = elim c.match-let_go.branch [
        | in-Some w ↦
            omega (
              arith,
              was.count,
              ap (λ (v : Vec ℕ). length v.items) w.returned-is,
              w.push_reserved.ensures.len,
              w.push_reserved.new.self.ok.0,
              c.loop-place.returned.ok.0,
              count_let_go chain place w.in-Some.slot (sym w.in-Some.ensures.slot),
              ap (held_count {A = ℕ}) c.let_go.ensures.chain,
            )
        | in_default w ↦
            omega (
              arith,
              was.count,
              ap (λ (v : Vec ℕ). length v.items) w.returned-is,
              ap (held_count {A = ℕ})
                  (c.let_go.ensures.chain ∙ stays chain place (sym c.let_go.ensures.slot ∙ w.in_default.is)),
            )
      ];
      room = elim c.match-let_go.branch [
        | in-Some w ↦
            ap (λ (v : Vec ℕ). vec_capacity v) w.returned-is ∙ w.push_reserved.ensures.capacity ∙ was.room
        | in_default w ↦ ap (λ (v : Vec ℕ). vec_capacity v) w.returned-is ∙ was.room
      ];
    }
