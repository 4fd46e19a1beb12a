-- What a sealed part holds, case by case.
use Rattle.std.specs.Prelude.{◌≡◌, ℕ, List}
use Rattle.seal_core.specs.declared.KeyPair.{KeyPair}
use Rattle.seal_core.specs.Sealing.{Sealer, OpensTo}
use Rattle.frame.specs.Pieces.{PieceView}
use Rattle.frame.specs.Frames.{nonce_of, Spells, Opens}
use Rattle.frame.specs.declared.sealed.Opening.{Opening}
use Rattle.frame.specs.declared.sealed.Opening.TheVariants.{Foreign, Closed, Malformed, Opened}

-- it opens to a piece of this partition, under the nonce of the piece's plain text
pub record Holds (sealed : Sealer) (keys : KeyPair) (partition : ℕ) (text : List ℕ)
    (x : PieceView) : Type 0 where
  pub plain : List ℕ
  pub opens : OpensTo sealed keys text (nonce_of plain) plain
  pub spells : Spells plain x
  pub own : x.partition ≡ partition

abbrev pub PartHolds : Sealer → KeyPair → ℕ → List ℕ → Opening → Type 0
PartHolds sealed keys partition text Foreign = ⊥
PartHolds sealed keys partition text Closed = ¬ Opens sealed keys text
PartHolds sealed keys partition text Malformed =
    Opens sealed keys text × ((x : PieceView) → ¬ Holds sealed keys partition text x)
PartHolds sealed keys partition text (Opened x) = Holds sealed keys partition text x
