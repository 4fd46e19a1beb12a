-- Cipher block chaining of FIPS 81, section 5, on blocks of 64 bits and on texts of bytes.
use Rattle.std.specs.Prelude.{ℕ, Bool, List, [], ◌∷◌}
use Rattle.des_cbc.specs.Bits.{xor_bits, block_bits, text_bits, text_bytes}
use Rattle.des_cbc.specs.Cipher.{cipher, decipher}

-- each block enciphered together with the output before it; the first with the initial vector
unfoldable pub chain : List (List Bool) → List Bool → List (List Bool) → List (List Bool)
chain ks before [] = []
chain ks before (p ∷ ps) = cipher ks (xor_bits p before)
    ∷ chain ks (cipher ks (xor_bits p before)) ps

-- each block deciphered, and the block before it taken off
unfoldable pub unchain : List (List Bool) → List Bool → List (List Bool) → List (List Bool)
unchain ks before [] = []
unchain ks before (c ∷ cs) = xor_bits (decipher ks c) before ∷ unchain ks c cs

-- a text of bytes, enciphered and deciphered under an initial vector
unfoldable pub encrypted_text : List (List Bool) → List ℕ → List ℕ → List ℕ
encrypted_text ks iv text = text_bytes (chain ks (block_bits iv) (text_bits text))

unfoldable pub decrypted_text : List (List Bool) → List ℕ → List ℕ → List ℕ
decrypted_text ks iv text = text_bytes (unchain ks (block_bits iv) (text_bits text))
