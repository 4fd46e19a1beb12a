-- What bytes are to a unit.
use Rattle.std.specs.Prelude.{◌≡◌, ℕ, List, drop, Bool, true, false, ◌==◌, ◌&&◌}
use Rattle.std.specs.List.{list_any}
use Rattle.std.proofs.Math.ListN.{get_or}
use Rattle.seal_core.specs.Sealing.{Sealer}
use Rattle.frame.specs.Pieces.{PieceView}
use Rattle.frame.specs.Frames.{IsFrame, HasHeader, Opens}
use Rattle.net_side.specs.NetView.{NetView}
use Rattle.net_side.specs.declared.inbound.Inbound.{Inbound}
use Rattle.net_side.specs.declared.inbound.Inbound.TheVariants.{Foreign, Closed, Malformed, NotMine, Ours}

-- whether an address is among these
abbrev pub is_among : List ℕ → ℕ → Bool
is_among partners a = list_any (λ p. p == a) partners

-- whether an address is a partner's
abbrev pub is_partner : NetView → ℕ → Bool
is_partner net a = get_or net.partners a false

-- whether a piece is to this unit, in its partition, from a partner
abbrev pub is_for : NetView → PieceView → Bool
is_for net x = x.to == net.address && x.partition == net.partition && is_partner net x.from

-- bytes are the frame of a piece in this unit's partition
abbrev pub IsFrameAt : Sealer → NetView → List ℕ → PieceView → Type 0
IsFrameAt sealed net bytes x = IsFrame sealed net.keys net.partition bytes x

-- bytes open at this unit: they have its header, and the rest opens under its keys
abbrev pub OpensAt : Sealer → NetView → List ℕ → Type 0
OpensAt sealed net bytes =
    HasHeader net.partition bytes × Opens sealed net.keys (drop 8 bytes)

-- Without its header they are foreign. Else they are closed where the rest doesn't open, malformed
-- where they open and are the frame of no piece, and else its piece is for this unit or not.
abbrev pub IsInbound : Sealer → NetView → List ℕ → Inbound → Type 0
IsInbound sealed net bytes Foreign = ¬ HasHeader net.partition bytes
IsInbound sealed net bytes Closed =
    HasHeader net.partition bytes × (¬ Opens sealed net.keys (drop 8 bytes))
IsInbound sealed net bytes Malformed =
    OpensAt sealed net bytes × ((x : PieceView) → ¬ IsFrameAt sealed net bytes x)
IsInbound sealed net bytes NotMine =
    (x : PieceView) × IsFrameAt sealed net bytes x × (is_for net x ≡ false)
IsInbound sealed net bytes (Ours x) = IsFrameAt sealed net bytes x × (is_for net x ≡ true)

-- whether bytes of this kind have opened
abbrev pub has_opened : Inbound → Bool
has_opened Foreign = false
has_opened Closed = false
has_opened Malformed = true
has_opened NotMine = true
has_opened (Ours x) = true
