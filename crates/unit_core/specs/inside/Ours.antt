-- The pieces that go from the network's side to the host's.
use Rattle.std.specs.Prelude.{◌≡◌, ℕ, ◌+◌, ◌≤◌, List, [], ◌∷◌, ◌++◌, length, map, filter, true}
use Rattle.std.specs.List.{AllByRecursion}
use Rattle.frame.specs.Pieces.{PieceView}
use Rattle.host_side.specs.HostView.{HostView}
use Rattle.host_side.specs.Hosts.{is_for}
use Rattle.net_side.specs.declared.inbound.Inbound.{Inbound}
use Rattle.net_side.specs.declared.inbound.Inbound.TheVariants.{Foreign, Closed, Malformed, NotMine, Ours}

-- the pieces of the frames that are the unit's
abbrev pub pieces_in : List Inbound → List PieceView
pieces_in [] = []
pieces_in (Foreign ∷ inbounds) = pieces_in inbounds
pieces_in (Closed ∷ inbounds) = pieces_in inbounds
pieces_in (Malformed ∷ inbounds) = pieces_in inbounds
pieces_in (NotMine ∷ inbounds) = pieces_in inbounds
pieces_in (Ours x ∷ inbounds) = x ∷ pieces_in inbounds

-- and the index of each of these frames, the first of all having index n
abbrev pub places_from : ℕ → List Inbound → List ℕ
places_from n [] = []
places_from n (Foreign ∷ inbounds) = places_from (n + 1) inbounds
places_from n (Closed ∷ inbounds) = places_from (n + 1) inbounds
places_from n (Malformed ∷ inbounds) = places_from (n + 1) inbounds
places_from n (NotMine ∷ inbounds) = places_from (n + 1) inbounds
places_from n (Ours x ∷ inbounds) = n ∷ places_from (n + 1) inbounds

-- pieces as frames that are the unit's
abbrev pub as_ours : List PieceView → List Inbound
as_ours pieces = map Ours pieces

-- those of these pieces that are for the host
abbrev pub mine : HostView → List PieceView → List PieceView
mine host pieces = filter (is_for host) pieces

-- These pieces are all for the host, and with n before them they are no more than 256.
pub record AreMine (host : HostView) (n : ℕ) (pieces : List PieceView) : Type 0 where
  pub all : AllByRecursion (λ x. is_for host x ≡ true) pieces
  pub few : n + length pieces ≤ 256
