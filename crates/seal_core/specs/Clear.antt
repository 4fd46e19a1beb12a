-- The clear sealing: the nonce, the plain text as it is, and one check block.
use Rattle.std.specs.Prelude.{ℕ, List, ◌++◌, map, fold, bit_xor}
use Rattle.std.specs.Int.{w64, to_be_bytes}
use Rattle.seal_core.specs.declared.KeyPair.{KeyPair}
use Rattle.seal_core.specs.Blocks.{blocks, block_word}

-- the exclusive or of the check key, the nonce and each block of the plain text
unfoldable pub clear_check : List ℕ → List ℕ → List ℕ → List ℕ
clear_check key nonce plain =
    to_be_bytes w64 (fold bit_xor (bit_xor (block_word key) (block_word nonce))
    (map block_word (blocks plain)))

-- the clear text of a nonce and a plain text
unfoldable pub clear_text : KeyPair → List ℕ → List ℕ → List ℕ
clear_text keys nonce plain = nonce ++ plain ++ clear_check keys.check nonce plain
