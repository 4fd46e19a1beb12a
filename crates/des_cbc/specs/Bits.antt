-- Blocks and keys as lists of bits, the first bit first.
use Rattle.std.specs.Prelude.{ℕ, zero, suc, ◌+◌, ◌-◌, ◌/◌, ◌%◌, ◌^◌, Bool, true, false, not, nat_eq, if◌then◌else◌, List, [], ◌∷◌, ◌++◌, map, length, slice_index_or}
use Rattle.std.specs.Int.{w64, from_be_bytes, to_be_bytes}
use Rattle.seal_core.specs.Blocks.{blocks}

-- the low n bits of a number, the highest first
unfoldable pub bits : ℕ → ℕ → List Bool
bits zero x = []
bits (suc n) x = nat_eq (x / 2 ^ n % 2) 1 ∷ bits n x

-- the number that bits spell, the highest first
unfoldable pub number : List Bool → ℕ
number [] = 0
number (b ∷ bs) = (if b then 2 ^ length bs else 0) + number bs

-- exclusive or of two bits
abbrev pub xor_bit : Bool → Bool → Bool
xor_bit true b = not b
xor_bit false b = b

-- exclusive or, bit by bit
unfoldable pub xor_bits : List Bool → List Bool → List Bool
xor_bits [] ys = []
xor_bits (x ∷ xs) [] = []
xor_bits (x ∷ xs) (y ∷ ys) = xor_bit x y ∷ xor_bits xs ys

-- the bits at a table's places, which are counted from 1
unfoldable pub permute : List ℕ → List Bool → List Bool
permute [] bs = []
permute (p ∷ table) bs = slice_index_or bs (p - 1) false ∷ permute table bs

-- the 64 bits of a block of eight bytes, the highest bit of the first byte first
unfoldable pub block_bits : List ℕ → List Bool
block_bits block = bits 64 (from_be_bytes w64 block)

-- the eight bytes of 64 bits
unfoldable pub block_bytes : List Bool → List ℕ
block_bytes bs = to_be_bytes w64 (number bs)

-- the blocks of a text of bytes, as bits
unfoldable pub text_bits : List ℕ → List (List Bool)
text_bits text = map block_bits (blocks text)

-- the bytes of blocks of bits, one block after another
unfoldable pub text_bytes : List (List Bool) → List ℕ
text_bytes [] = []
text_bytes (b ∷ bs) = block_bytes b ++ text_bytes bs
