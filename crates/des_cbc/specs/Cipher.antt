-- The data encryption algorithm of FIPS 46-3, on lists of bits.
use Rattle.std.specs.Prelude.{ℕ, ◌+◌, ◌*◌, Bool, List, [], ◌∷◌, ◌++◌, reverse, take, drop, slice_index}
use Rattle.des_cbc.specs.Tables.{initial, inverse_initial, expansion, primitive, choice_1, choice_2, shifts}
use Rattle.des_cbc.specs.Selections.{selections}
use Rattle.des_cbc.specs.Bits.{bits, number, xor_bits, permute, block_bits, block_bytes}

-- a selection function: of its six bits the first and the last name the row, the others the column
unfoldable pub select : List ℕ → List Bool → List Bool
select table b =
    let row = number (permute (1 ∷ 6 ∷ []) b) in
    let column = number (permute (2 ∷ 3 ∷ 4 ∷ 5 ∷ []) b) in
    bits 4 (slice_index table (16 * row + column))

-- each selection function on its six bits
unfoldable pub select_all : List (List ℕ) → List Bool → List Bool
select_all [] b = []
select_all (table ∷ tables) b = select table (take 6 b) ++ select_all tables (drop 6 b)

-- the cipher function f(R, K)
unfoldable pub cipher_function : List Bool → List Bool → List Bool
cipher_function r k = permute primitive (select_all selections (xor_bits (permute expansion r) k))

-- the halves L and R of a block
pub record Halves : Type 0 where
  pub left : List Bool
  pub right : List Bool

-- a round: L' = R and R' = L xor f(R, K)
abbrev pub round : List Bool → Halves → Halves
round k h = record { left = h.right; right = xor_bits h.left (cipher_function h.right k) }

-- the rounds with these round keys, in order
unfoldable pub rounds : List (List Bool) → Halves → Halves
rounds [] h = h
rounds (k ∷ ks) h = rounds ks (round k h)

-- the halves that a block begins as
abbrev pub input_halves : List Bool → Halves
input_halves b = record { left = take 32 (permute initial b); right = drop 32 (permute initial b) }

-- the block that the halves end as: the last R comes first
abbrev pub output_block : Halves → List Bool
output_block h = permute inverse_initial (h.right ++ h.left)

-- enciphering of a block with round keys
unfoldable pub cipher : List (List Bool) → List Bool → List Bool
cipher ks b = output_block (rounds ks (input_halves b))

-- deciphering is the same with the round keys in the opposite order
abbrev pub decipher : List (List Bool) → List Bool → List Bool
decipher ks b = cipher (reverse ks) b

-- bits shifted to the left in a circle
abbrev pub rotate : ℕ → List Bool → List Bool
rotate n bs = drop n bs ++ take n bs

-- the round keys, from the halves C and D and the shifts
unfoldable pub round_keys : List ℕ → List Bool → List Bool → List (List Bool)
round_keys [] c d = []
round_keys (n ∷ ns) c d = permute choice_2 (rotate n c ++ rotate n d)
    ∷ round_keys ns (rotate n c) (rotate n d)

-- the key schedule: the 16 round keys of a key of 64 bits
unfoldable pub schedule : List Bool → List (List Bool)
schedule key = round_keys shifts (take 28 (permute choice_1 key)) (drop 28 (permute choice_1 key))

-- a block of eight bytes, enciphered and deciphered
unfoldable pub encrypted : List (List Bool) → List ℕ → List ℕ
encrypted ks block = block_bytes (cipher ks (block_bits block))

unfoldable pub decrypted : List (List Bool) → List ℕ → List ℕ
decrypted ks block = block_bytes (decipher ks (block_bits block))
