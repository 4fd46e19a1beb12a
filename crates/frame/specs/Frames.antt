-- Frames: the header of a partition, and a piece that is sealed under the partition's keys.
use Rattle.std.specs.Prelude.{◌≡◌, ℕ, List, [], ◌∷◌, ◌++◌, take, replicate}
use Rattle.std.specs.Int.{w32, to_be_bytes}
use Rattle.seal_core.specs.declared.KeyPair.{KeyPair}
use Rattle.seal_core.specs.Sealing.{Sealer, OpensTo}
use Rattle.frame.specs.Pieces.{PieceView, IsPiece}

-- the eight bytes that each frame of a partition begins with
unfoldable pub header : ℕ → List ℕ
header partition = 68 ∷ 83 ∷ 1 ∷ partition ∷ replicate 4 0

-- the 104 bytes of a piece that are sealed
unfoldable pub plain_of : PieceView → List ℕ
plain_of x =
    x.from ∷ x.to ∷ (to_be_bytes w32 x.message
    ++ (x.piece ∷ x.last ∷ x.used ∷ x.partition ∷ (replicate 6 0 ++ x.payload)))

-- the nonce of a plain text: its first seven bytes, and 0
unfoldable pub nonce_of : List ℕ → List ℕ
nonce_of plain = take 7 plain ++ 0 ∷ []

-- the frame of a piece, 128 bytes
unfoldable pub frame_of : Sealer → KeyPair → PieceView → List ℕ
frame_of sealed keys x = header x.partition ++ sealed keys (nonce_of (plain_of x)) (plain_of x)

-- a plain text spells a piece
pub record Spells (plain : List ℕ) (x : PieceView) : Type 0 where
  pub piece : IsPiece x
  pub same : plain ≡ plain_of x

-- bytes are the frame of a piece of this partition
pub record IsFrame (sealed : Sealer) (keys : KeyPair) (partition : ℕ) (bytes : List ℕ)
    (x : PieceView) : Type 0 where
  pub piece : IsPiece x
  pub own : x.partition ≡ partition
  pub same : bytes ≡ frame_of sealed keys x

-- bytes begin with the header of a partition
abbrev pub HasHeader : ℕ → List ℕ → Type 0
HasHeader partition bytes = take 8 bytes ≡ header partition

-- a sealed text opens to something
pub record Opens (sealed : Sealer) (keys : KeyPair) (text : List ℕ) : Type 0 where
  pub nonce : List ℕ
  pub plain : List ℕ
  pub opens : OpensTo sealed keys text nonce plain
