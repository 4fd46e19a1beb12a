use Rattle.std.proofs.Common.{◌≡◌, ℕ, Some, None, get_or, sym, ◌∙◌, ap, arith, inl, inr}
use Rattle.std.specs.List.{flat_map}
use Rattle.std.proofs.lemmas.Bool.{cases_eq}
use Rattle.frame_pool.specs.PoolView.{PoolView}
use Rattle.frame_pool.specs.Pools.{chain_of, slots_in, IsPool}
use Rattle.frame_pool.proofs.Times.{times-append, times_held, times_twice, times_chain, times_two}
use Rattle.frame_pool.proofs.Blocks.{at_most_once}
use Rattle.frame_pool.proofs.laws.a_slot_has_one_place.Goals as goal

one_owner : (pool : PoolView) (a b i j slot : ℕ) → IsPool pool → get_or (chain_of pool a) i None ≡ Some slot
    → get_or (chain_of pool b) j None ≡ Some slot → a ≡ b
one_owner pool a b i j slot kept here there =
    elim (cases_eq a b) [
      | inl is ↦ is
      | inr ne ↦
          absurd
          (omega (
            arith,
            at_most_once pool kept slot,
            times-append slot pool.free (flat_map slots_in pool.chains),
            times_two slot pool.chains a b ne,
            times_held (chain_of pool a) i slot here,
            times_held (chain_of pool b) j slot there,
          ))
    ]

one_place : (pool : PoolView) (owner i j slot : ℕ) → IsPool pool → get_or (chain_of pool owner) i None ≡ Some slot
    → get_or (chain_of pool owner) j None ≡ Some slot → i ≡ j
one_place pool owner i j slot kept here there =
    elim (cases_eq i j) [
      | inl is ↦ is
      | inr ne ↦
          absurd
          (omega (
            arith,
            at_most_once pool kept slot,
            times-append slot pool.free (flat_map slots_in pool.chains),
            times_chain slot pool.chains owner,
            times_twice slot (chain_of pool owner) j i ne there here,
          ))
    ]

pub returns-clause-place : goal.returns-clause-place
returns-clause-place c pool a b i j slot kept here there =
    let owner = one_owner pool a b i j slot kept here there in (
      owner,
      one_place pool b i j slot kept
          (sym (ap (λ (k : ℕ). get_or (chain_of pool k) i None) owner) ∙ here) there,
    )

pub returns-clause-free : goal.returns-clause-free
returns-clause-free c pool owner place slot kept is =
    omega (
      arith,
      at_most_once pool kept slot,
      times-append slot pool.free (flat_map slots_in pool.chains),
      times_chain slot pool.chains owner,
      times_held (chain_of pool owner) place slot is,
    )
