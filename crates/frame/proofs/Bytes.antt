-- Texts of bytes.
use Rattle.std.proofs.Common.{ℕ, zero, suc, ◌<◌, ◌/◌, ◌%◌, ◌^◌, List, [], ◌∷◌, arith}
use Rattle.std.specs.Prelude.{slice_index, replicate}
use Rattle.std.specs.Int.{w32, to_be_bytes, byte_at, bytes_high_first}
use Rattle.seal_core.specs.Blocks.{AreBytes}

one_more : (b : ℕ) (bs : List ℕ) → b < 256 → AreBytes bs → (i : ℕ) → slice_index (b ∷ bs) i < 256
one_more b bs small rest zero = small
one_more b bs small rest (suc i) = rest.below i

pub AreBytes-cons : (b : ℕ) (bs : List ℕ) → b < 256 → AreBytes bs → AreBytes (b ∷ bs)
AreBytes-cons b bs small rest = record { below = one_more b bs small rest }

none_below : (i : ℕ) → slice_index [] i < 256
none_below i = omega arith

pub AreBytes-zeros : (n : ℕ) → AreBytes (replicate n 0)
AreBytes-zeros zero = record { below = none_below }
AreBytes-zeros (suc n) = AreBytes-cons 0 (replicate n 0) (omega arith) (AreBytes-zeros n)

high : (n : ℕ) → n % 256 < 256
high n = omega arith

byte_small : (k n : ℕ) → byte_at k n < 256
byte_small zero n = omega arith
byte_small (suc k) n = high (n / 256 ^ suc k)

AreBytes-high : (k n : ℕ) → AreBytes (bytes_high_first k n)
AreBytes-high zero n = AreBytes-zeros 0
AreBytes-high (suc k) n = AreBytes-cons (byte_at k n) (bytes_high_first k n) (byte_small k n) (AreBytes-high k n)

-- the bytes of a message number
pub AreBytes-number : (n : ℕ) → AreBytes (to_be_bytes w32 n)
AreBytes-number n = AreBytes-high 4 n
