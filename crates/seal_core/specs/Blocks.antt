-- Texts of bytes, and the blocks that they are cut into.
use Rattle.std.specs.Prelude.{◌≡◌, ℕ, zero, suc, ◌/◌, ◌%◌, ◌<◌, List, [], ◌∷◌, length, take, drop, slice_index}
use Rattle.std.specs.Int.{w64, from_be_bytes}

-- each number is a byte
pub record AreBytes (xs : List ℕ) : Type 0 where
  pub below : (i : ℕ) → slice_index xs i < 256

-- a block has eight bytes
pub record IsBlock (xs : List ℕ) : Type 0 where
  pub len : length xs ≡ 8
  pub bytes : AreBytes xs

-- a plain text has one or more whole blocks
pub record IsPlain (xs : List ℕ) : Type 0 where
  pub some : 0 < length xs
  pub whole : length xs % 8 ≡ 0
  pub bytes : AreBytes xs

-- the first n blocks of a text
unfoldable pub first_blocks : ℕ → List ℕ → List (List ℕ)
first_blocks zero text = []
first_blocks (suc n) text = take 8 text ∷ first_blocks n (drop 8 text)

-- the blocks of a text, in order
unfoldable pub blocks : List ℕ → List (List ℕ)
blocks text = first_blocks (length text / 8) text

-- a block as a number, the first byte first
abbrev pub block_word : List ℕ → ℕ
block_word block = from_be_bytes w64 block
