use Rattle.std.proofs.Common.{◌≡◌, List, ℕ, Option, Some, None, set, get_or, sym, ◌∙◌, ap, arith}
use Rattle.std.proofs.lemmas.List.{map-set, length-set}
use Rattle.frame_pool.specs.Pools.{held_count}
use Rattle.frame_pool.specs.inside.Chains.{slot_of, places_of}
use Rattle.frame_pool.proofs.Counting.{count_let_go}
use Rattle.frame_pool.proofs.chain.Chain.let_go.Goals as goal

pub overflow_sub-self : goal.overflow_sub-self
overflow_sub-self c =
    let at : get_or (places_of c.self.inside) c.args.place None ≡ Some c.in_ok-slot.slot =
    ap (λ (places : List (Option ℕ)). get_or places c.args.place None) c.self.view_is ∙ sym c.at.ensures
    ∙ c.in_ok-slot.was in
    omega (arith, count_let_go (places_of c.self.inside) c.args.place c.in_ok-slot.slot at, c.self.invariant.held)

pub invariant_of-self : goal.invariant_of-self
invariant_of-self c =
    let i = c.self.inside in
    let at : get_or (places_of i) c.args.place None ≡ Some c.in_ok-slot.slot =
    ap (λ (places : List (Option ℕ)). get_or places c.args.place None) c.self.view_is ∙ sym c.at.ensures
    ∙ c.in_ok-slot.was in
    record {
      places = length-set i.slots c.args.place 65535 ∙ c.self.invariant.places;
      held =
          omega (
            arith,
            count_let_go (places_of i) c.args.place c.in_ok-slot.slot at,
            ap held_count (map-set slot_of i.slots c.args.place 65535),
            c.self.invariant.held,
          );
    }

pub returns-clause-chain : goal.returns-clause-chain
returns-clause-chain c =
    map-set slot_of c.self.inside.slots c.args.place 65535
    ∙ ap (λ (places : List (Option ℕ)). set places c.args.place None) c.self.view_is
