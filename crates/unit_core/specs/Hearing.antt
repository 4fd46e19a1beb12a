-- What a unit does with the frames that it is handed: it depends on what they are to it, and on
-- the pieces of each partner that came before, the newest first.
use Rattle.std.specs.Prelude.{◌≡◌, ℕ, ◌+◌, ◌<◌, ◌==◌, List, [], ◌∷◌, ◌++◌, take, drop, true, if◌then◌else◌}
use Rattle.seal_core.specs.Sealing.{Sealer}
use Rattle.frame.specs.Pieces.{PieceView}
use Rattle.window.specs.ListRule.{completes, body}
use Rattle.host_side.specs.HostView.{HostView}
use Rattle.host_side.specs.Hosts.{has_stream, StandsFor}
use Rattle.net_side.specs.NetView.{NetView}
use Rattle.net_side.specs.Nets.{IsInbound}
use Rattle.net_side.specs.declared.inbound.Inbound.{Inbound}
use Rattle.net_side.specs.declared.inbound.Inbound.TheVariants as inbound
use Rattle.unit_core.specs.Views.{GivenMessage}
use Rattle.unit_core.specs.declared.rows.FrameKind.{FrameKind}
use Rattle.unit_core.specs.declared.rows.FrameKind.TheVariants as kind
use Rattle.unit_core.specs.declared.rows.GivenRow.{GivenRow}

-- each of these frames is this to the unit
abbrev pub AreInbound : Sealer → NetView → List (List ℕ) → List Inbound → Type 0
AreInbound sealed net [] [] = Unit {0}
AreInbound sealed net (frame ∷ frames) (x ∷ inbounds) =
    IsInbound sealed net frame x × AreInbound sealed net frames inbounds
AreInbound sealed net [] (x ∷ inbounds) = ⊥
AreInbound sealed net (frame ∷ frames) [] = ⊥

abbrev pub kind_of : Inbound → FrameKind
kind_of inbound.Foreign = kind.Foreign
kind_of inbound.Closed = kind.Closed
kind_of inbound.Malformed = kind.Malformed
kind_of inbound.NotMine = kind.NotMine
kind_of (inbound.Ours x) = kind.Ours

-- a piece joins what came from its sender
abbrev pub with_piece : (ℕ → List PieceView) → PieceView → ℕ → List PieceView
with_piece h x a = if x.from == a then x ∷ h a else h a

-- what came from each address after a frame
abbrev pub heard_more : (ℕ → List PieceView) → Inbound → ℕ → List PieceView
heard_more h inbound.Foreign = h
heard_more h inbound.Closed = h
heard_more h inbound.Malformed = h
heard_more h inbound.NotMine = h
heard_more h (inbound.Ours x) = with_piece h x

-- what came from each address after these frames
abbrev pub heard_after : (ℕ → List PieceView) → List Inbound → ℕ → List PieceView
heard_after h [] = h
heard_after h (x ∷ inbounds) = heard_after (heard_more h x) inbounds

-- the message that a piece completes after these, in the frame with this index
abbrev pub completed : List PieceView → ℕ → PieceView → List GivenMessage
completed h n x =
    if completes h x then record {
      frame = n;
      from = x.from;
      message = x.message;
      body = body (x ∷ h) x.message;
    } ∷ [] else []

-- the message that the frame with this index gives, if it gives one
abbrev pub given_by : (ℕ → List PieceView) → ℕ → Inbound → List GivenMessage
given_by h n inbound.Foreign = []
given_by h n inbound.Closed = []
given_by h n inbound.Malformed = []
given_by h n inbound.NotMine = []
given_by h n (inbound.Ours x) = completed (h x.from) n x

-- the messages that these frames give, the first having index n
abbrev pub given_from : (ℕ → List PieceView) → ℕ → List Inbound → List GivenMessage
given_from h n [] = []
given_from h n (x ∷ inbounds) = given_by h n x ++ given_from (heard_more h x) (n + 1) inbounds

-- how many of these frames are the unit's
abbrev pub ours_in : List Inbound → ℕ
ours_in [] = 0
ours_in (inbound.Foreign ∷ inbounds) = ours_in inbounds
ours_in (inbound.Closed ∷ inbounds) = ours_in inbounds
ours_in (inbound.Malformed ∷ inbounds) = ours_in inbounds
ours_in (inbound.NotMine ∷ inbounds) = ours_in inbounds
ours_in (inbound.Ours x ∷ inbounds) = 1 + ours_in inbounds

-- of each partner the host's side stands for these pieces
abbrev pub StandsForAll : HostView → (ℕ → List PieceView) → Type 0
StandsForAll host h = (a : ℕ) → a < 256 → has_stream host a ≡ true → StandsFor host a (h a)

-- the message of a row, its bytes standing among these
abbrev pub message_in : List ℕ → GivenRow → GivenMessage
message_in bodies row = record {
  frame = row.frame;
  from = row.from;
  message = row.message;
  body = take row.length (drop row.start bodies);
}
