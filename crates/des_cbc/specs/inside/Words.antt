-- What the code computes on words.
use Rattle.std.specs.Prelude.{◌≡◌, ◌↔◌, IsTrue, reverse, ℕ, ◌-◌, ◌*◌, ◌/◌, ◌%◌, ◌^◌, Bool, List, [], ◌∷◌, ◌++◌, bit_and, bit_xor, replicate, false, slice_index_or}
use Rattle.des_cbc.specs.Tables.{inverse_initial}
use Rattle.des_cbc.specs.Selections.{selections}
use Rattle.des_cbc.specs.Bits.{bits, permute, text_bits}
use Rattle.des_cbc.specs.Chaining.{unchain}
use Rattle.des_cbc.specs.Sealing.{check_of}

-- the bits at the mask's places change places with those k above
abbrev pub exchanged : ℕ → ℕ → ℕ → ℕ
exchanged k mask x =
    let moved = bit_and (bit_xor x (x / 2 ^ k)) mask in
    bit_xor (bit_xor x moved) (moved * 2 ^ k % 2 ^ 64)

-- the initial permutation and its inverse
abbrev pub initial_word : ℕ → ℕ
initial_word x =
    exchanged 33 0x55555555 (exchanged 24 0xff00ff00
    (exchanged 30 0xcccccccc (exchanged 48 0xffff (exchanged 36 0x0f0f0f0f x))))

abbrev pub final_word : ℕ → ℕ
final_word x =
    exchanged 36 0x0f0f0f0f (exchanged 48 0xffff
    (exchanged 30 0xcccccccc (exchanged 24 0xff00ff00 (exchanged 33 0x55555555 x))))

-- the block of a word that still has the inverse of the initial permutation ahead
abbrev pub unpermuted : ℕ → List Bool
unpermuted x = permute inverse_initial (bits 64 x)

-- the right half turned, so that each byte ends with the six bits of a selection function: of the
-- odd ones, and of the even ones
abbrev pub odd_groups : ℕ → ℕ
odd_groups r = bit_xor (r / 2 ^ 3) (r * 2 ^ 29 % 2 ^ 32)

abbrev pub even_groups : ℕ → ℕ
even_groups r = bit_xor (r * 2 ^ 1 % 2 ^ 32) (r / 2 ^ 31)

-- the eight groups of six bits at the ends of the bytes of two words, in turns
unfoldable pub groups : ℕ → ℕ → List Bool
groups odd even =
    bits 6 (odd / 2 ^ 24) ++ (bits 6 (even / 2 ^ 24)
    ++ (bits 6 (odd / 2 ^ 16) ++ (bits 6 (even / 2 ^ 16)
    ++ (bits 6 (odd / 2 ^ 8) ++ (bits 6 (even / 2 ^ 8)
    ++ (bits 6 (odd / 2 ^ 0) ++ bits 6 (even / 2 ^ 0)))))))

-- a round key in a word
abbrev pub round_key : ℕ → List Bool
round_key k = groups (k / 2 ^ 32) (k % 2 ^ 32)

-- the selection function at a place, from 0
abbrev pub selection : ℕ → List ℕ
selection place = slice_index_or selections place []

-- four bits at a place among the eight
unfoldable pub at_place : ℕ → List Bool → List Bool
at_place place b = replicate (4 * place) false ++ (b ++ replicate (28 - 4 * place) false)

-- rows of eight bits as columns, the last row first
abbrev pub columns : ℕ → ℕ
columns x =
    exchanged 28 0xf0f0f0f0 (exchanged 14 0x0000cccc0000cccc (exchanged 7 0x00aa00aa00aa00aa
    (exchanged 32 0xffffffff (exchanged 16 0x0000ffff0000ffff (exchanged 8 0x00ff00ff00ff00ff x)))))

-- permuted choice 1, gathered from the columns of a key
abbrev pub gathered : ℕ → ℕ
gathered t =
    bit_xor (bit_xor (bit_xor (bit_xor (bit_and (t / 2 ^ 8) 0xfffffff0000000)
    (bit_and (t * 2 ^ 12 % 2 ^ 64) 0xff00000)) (bit_and (t / 2 ^ 4) 0xff000))
    (bit_and (t / 2 ^ 20) 0xff0)) (bit_and (t / 2 ^ 32) 0xf)

abbrev pub choice_word : ℕ → ℕ
choice_word x = gathered (columns x)

-- both halves of a key turned by one bit
abbrev pub turned_word : ℕ → ℕ
turned_word x = bit_xor (bit_and (x * 2 ^ 1 % 2 ^ 64) 0xffffffeffffffe)
    (bit_and (x / 2 ^ 27) 0x10000001)

-- a chain deciphers to the plain text and one last block, which is the check block exactly where
-- the answer is true
pub record IsUnsealed (backward check : List (List Bool)) (nonce : List Bool) (text plain : List ℕ)
    (answer : Bool) : Type 0 where
  pub last : List Bool
  pub blocks : unchain (reverse backward) nonce (text_bits text) ≡ text_bits plain ++ last ∷ []
  pub checked : IsTrue answer ↔ (last ≡ check_of check nonce (text_bits plain))
