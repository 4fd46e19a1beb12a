use Rattle.std.proofs.Common.{◌≡◌, ℕ, ◌/◌, List, length, bit_xor, map, fold, sym, ap, ap₂, ◌∙◌}
use Rattle.std.proofs.lemmas.List.{drop_all}
use Rattle.std.specs.Int.{w64, to_be_bytes}
use Rattle.seal_core.specs.Blocks.{block_word, blocks}
use Rattle.seal_core.specs.Clear.{clear_check}
use Rattle.seal_core.proofs.Checks.{chunks_are_blocks}
use Rattle.seal_core.proofs.clear.check_block.Goals as goal

pub returns : goal.returns
unfolding clear_check blocks
returns c =
    let plain = c.args.plain.now in
    let done = drop_all c.loop-block.block-index c.as_chunks.result.0.now c.loop-block-test.false in
    let sum : c.loop-block.sum ≡ fold bit_xor (bit_xor c.from_be_bytes.result c.from_be_bytes-2.result)
    (map block_word c.as_chunks.result.0.now) =
    sym (ap (λ (bs : List (List ℕ)). fold bit_xor c.loop-block.sum (map block_word bs)) done)
    ∙ c.loop-block.invariant in
    let start = ap₂ (λ (a b : ℕ). bit_xor a b) c.from_be_bytes.ensures c.from_be_bytes-2.ensures in
    let parts = c.as_chunks.ensures.front ∙ chunks_are_blocks (length plain / 8) plain in
    c.to_be_bytes.ensures
    ∙ ap (to_be_bytes w64)
    (sum ∙ ap₂ (λ (s : ℕ) (bs : List (List ℕ)). fold bit_xor s (map block_word bs)) start parts)
