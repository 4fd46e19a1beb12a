-- The DES sealing: the nonce, and the plain text with a check block in one chain.
use Rattle.std.specs.Prelude.{ℕ, Bool, List, [], ◌∷◌, ◌++◌}
use Rattle.seal_core.specs.declared.KeyPair.{KeyPair}
use Rattle.des_cbc.specs.Bits.{xor_bits, block_bits, text_bits, text_bytes}
use Rattle.des_cbc.specs.Cipher.{cipher, schedule}
use Rattle.des_cbc.specs.Chaining.{chain}

-- the last output of a chain, or the block that it begins with
unfoldable pub last_output : List (List Bool) → List Bool → List (List Bool) → List Bool
last_output ks before [] = before
last_output ks before (p ∷ ps) = last_output ks (cipher ks (xor_bits p before)) ps

-- the check block of a nonce and blocks: the enciphered nonce begins the chain, the last output
-- ends it
abbrev pub check_of : List (List Bool) → List Bool → List (List Bool) → List Bool
check_of ks nonce ps = last_output ks (cipher ks nonce) ps

-- the blocks and their check block in one chain from the nonce, under the main key
abbrev pub sealed_blocks : List (List Bool) → List (List Bool) → List Bool → List (List Bool)
    → List (List Bool)
sealed_blocks main check nonce ps = chain main nonce (ps ++ check_of check nonce ps ∷ [])

-- the sealed text of a nonce and a plain text under a key pair
unfoldable pub des_text : KeyPair → List ℕ → List ℕ → List ℕ
des_text keys nonce plain =
    nonce ++ text_bytes (sealed_blocks (schedule (block_bits keys.main))
    (schedule (block_bits keys.check)) (block_bits nonce) (text_bits plain))
