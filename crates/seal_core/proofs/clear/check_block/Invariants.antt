use Rattle.std.proofs.Common.{◌≡◌, drop, bit_xor, map, fold}
use Rattle.seal_core.specs.Blocks.{block_word}
use Rattle.seal_core.proofs.clear.check_block.Given as goal

abbrev pub invariant-loop-block : goal.invariant-loop-block
invariant-loop-block l =
    fold bit_xor l.sum (map block_word (drop l.block-index l.blocks))
    ≡ fold bit_xor l.initial.sum (map block_word l.blocks)
