use Rattle.std.proofs.Common.{◌≡◌, length, get_or, Option, Some, None, is_some, refl, ◌∙◌, arith, false}
use Rattle.std.proofs.lemmas.List.{length-map}
use Rattle.frame_pool.specs.Pools.{chain_of, block_in, blocks_of}
use Rattle.frame_pool.proofs.Counting.{one_empty}
use Rattle.frame_pool.proofs.laws.an_empty_place_finds_a_slot.Goals as goal

nothing : {A : Type 0} (o : Option A) → is_some o ≡ false → o ≡ None
nothing None h = refl
nothing (Some x) h = cc

pub returns : goal.returns
returns c pool owner place quota count lt empty =
    let n : length (blocks_of pool owner) ≡ 256 = length-map (chain_of pool owner) (block_in pool.slots) ∙ count in
    let few = one_empty (blocks_of pool owner) place (omega (arith, lt, n))
    (nothing (get_or (blocks_of pool owner) place None) empty) in
    omega (arith, few, n, quota)
