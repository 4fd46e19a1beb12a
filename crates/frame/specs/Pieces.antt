-- The pieces of a message.
use Rattle.std.specs.Prelude.{ℕ, ◌≡◌, ◌+◌, ◌-◌, ◌*◌, ◌/◌, ◌^◌, ◌<◌, ◌≤◌, List, ◌++◌, length, take, drop, replicate, max}
use Rattle.seal_core.specs.Blocks.{AreBytes}

-- how many pieces of 88 bytes a message of n bytes has, one at least
unfoldable pub piece_count : ℕ → ℕ
piece_count n = max 1 ((n + 87) / 88)

-- how many pieces a message has
abbrev pub pieces : List ℕ → ℕ
pieces message = piece_count (length message)

-- the bytes of the i-th piece, from 0
unfoldable pub piece_bytes : List ℕ → ℕ → List ℕ
piece_bytes message i = take 88 (drop (88 * i) message)

-- a piece as its fields
pub record PieceView : Type 0 where
  pub from : ℕ
  pub to : ℕ
  pub message : ℕ
  pub piece : ℕ
  pub last : ℕ
  pub used : ℕ
  pub partition : ℕ
  pub payload : List ℕ

-- the bytes that a piece carries
abbrev pub used_bytes : PieceView → List ℕ
used_bytes piece = take piece.used piece.payload

-- zeros behind the used bytes
unfoldable pub padded : List ℕ → List ℕ
padded bytes = bytes ++ replicate (88 - length bytes) 0

-- the i-th piece of a message
abbrev pub piece_of : ℕ → ℕ → ℕ → ℕ → List ℕ → ℕ → PieceView
piece_of from to partition message body i = record {
  from = from;
  to = to;
  message = message;
  piece = i;
  last = pieces body - 1;
  used = length (piece_bytes body i);
  partition = partition;
  payload = padded (piece_bytes body i);
}

-- Every field is in its range. Every piece but the last is full; the last has a byte, unless it is
-- the only one. Zeros stand behind the used bytes.
pub record IsPiece (piece : PieceView) : Type 0 where
  pub from : piece.from < 256
  pub to : piece.to < 256
  pub message : piece.message < 2 ^ 32
  pub partition : piece.partition < 256
  pub within : piece.piece ≤ piece.last
  pub last : piece.last ≤ 63
  pub full : piece.piece < piece.last → piece.used ≡ 88
  pub some : 0 < piece.last → 0 < piece.used
  pub used : piece.used ≤ 88
  pub wide : length piece.payload ≡ 88
  pub bytes : AreBytes piece.payload
  pub zeros : drop piece.used piece.payload ≡ replicate (88 - piece.used) 0
