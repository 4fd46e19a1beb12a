use Rattle.std.proofs.Common.{◌≡◌, ◌<◌, List, ℕ, Option, Some, None, Bool, false, set, get_or, ◌∙◌, ap, arith}
use Rattle.std.specs.Prelude.{◌==◌, if◌then◌else◌}
use Rattle.std.proofs.lemmas.Bool.Decides.{nat_tests}
use Rattle.std.proofs.lemmas.List.{map-set, length-set, length-map}
use Rattle.frame_pool.specs.Pools.{held_count}
use Rattle.frame_pool.specs.inside.Chains.{slot_of, places_of}
use Rattle.frame_pool.proofs.Counting.{not_all, count_put}
use Rattle.frame_pool.proofs.chain.Chain.hold.Goals as goal

held_slot : (slot : ℕ) → slot < 65535 → slot_of slot ≡ Some slot
held_slot slot lt =
    let other : (slot == 65535) ≡ false = grind (arith, nat_tests) in
    ap (λ (b : Bool). if b then None else Some slot) other

pub overflow_add-self : goal.overflow_add-self
overflow_add-self c =
    let i = c.self.inside in
    omega (arith, not_all (places_of i), length-map i.slots slot_of, c.self.invariant.held, c.self.invariant.places)

pub invariant_of-self : goal.invariant_of-self
invariant_of-self c =
    let i = c.self.inside in
    let after = map-set slot_of i.slots c.args.place c.args.slot
    ∙ ap (λ (o : Option ℕ). set (places_of i) c.args.place o) (held_slot c.args.slot c.requires.slot) in
    let empty = ap (λ (places : List (Option ℕ)). get_or places c.args.place None) c.self.view_is
    ∙ c.requires.empty in
    let more = count_put (places_of i) c.args.place c.args.slot
    (omega (arith, length-map i.slots slot_of, c.self.invariant.places, c.requires.place)) empty in
    record {
      places = length-set i.slots c.args.place c.args.slot ∙ c.self.invariant.places;
      held = omega (arith, ap held_count after, more, c.self.invariant.held);
    }

pub returns : goal.returns
returns c =
    let i = c.self.inside in
    map-set slot_of i.slots c.args.place c.args.slot
    ∙ ap (λ (o : Option ℕ). set (places_of i) c.args.place o) (held_slot c.args.slot c.requires.slot)
    ∙ ap (λ (places : List (Option ℕ)). set places c.args.place (Some c.args.slot)) c.self.view_is
