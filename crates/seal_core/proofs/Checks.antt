-- The check block of the clear sealing, block by block.
use Rattle.std.proofs.Common.{◌≡◌, ℕ, zero, suc, ◌∷◌, List, take, drop, refl, ap}
use Rattle.std.specs.Simd.{first_chunks}
use Rattle.seal_core.specs.Blocks.{first_blocks}

-- chunks of eight bytes are blocks
pub chunks_are_blocks : (n : ℕ) (text : List ℕ) → first_chunks 8 n text ≡ first_blocks n text
unfolding first_blocks
chunks_are_blocks zero text = refl
chunks_are_blocks (suc n) text =
    ap (λ (rest : List (List ℕ)). take 8 text ∷ rest) (chunks_are_blocks n (drop 8 text))
