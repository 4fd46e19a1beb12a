-- A host's side, as its callers see it.
use Rattle.std.specs.Prelude.{◌≡◌, ℕ, List, ◌∷◌, ◌++◌, length, drop, Bool, ◌==◌, ◌&&◌, Option, Some, None, is_some, if◌then◌else◌}
use Rattle.std.proofs.Math.ListN.{get_or, set}
use Rattle.frame.specs.Pieces.{PieceView}
use Rattle.window.specs.ListRule.{completes, body}
use Rattle.window.specs.Windows as windows
use Rattle.host_side.specs.HostView.{HostView}
use Rattle.host_side.specs.declared.host.Given.{Given}

-- the next number of the stream to an address, or none where it is no partner's
abbrev pub next_of : HostView → ℕ → Option ℕ
next_of host a = get_or host.streams a None

-- whether there is a stream to an address, as to each partner
abbrev pub has_stream : HostView → ℕ → Bool
has_stream host a = is_some (next_of host a)

-- the stream to this address goes on with this number, and nothing else changes
abbrev pub with_next : HostView → ℕ → ℕ → HostView
with_next host to number = record host { streams = set host.streams to (Some number) }

-- whether a piece is to this host, in its partition, from a partner
abbrev pub is_for : HostView → PieceView → Bool
is_for host x = x.to == host.address && x.partition == host.partition && has_stream host x.from

-- The side stands for this list of pieces from a partner, the newest first.
abbrev pub StandsFor : HostView → ℕ → List PieceView → Type 0
StandsFor host a h = windows.StandsFor host.window a h

-- what the next piece gives after these
abbrev pub given_at : List PieceView → PieceView → Option Given
given_at h x =
    let bytes = body (x ∷ h) x.message in
    if completes h x
    then Some (record { from = x.from; message = x.message; length = length bytes }) else None

-- the bytes with a message at their front, the others as they were
abbrev pub with_front : List ℕ → List ℕ → List ℕ
with_front out message = message ++ drop (length message) out

-- what the next piece makes of the bytes: the message that it gives is written to their front
abbrev pub out_after : List ℕ → List PieceView → PieceView → List ℕ
out_after out h x = if completes h x then with_front out (body (x ∷ h) x.message) else out

-- the address, the partition and the partners are the same
abbrev pub SameNames : HostView → HostView → Type 0
SameNames old new =
    (new.address ≡ old.address) × (new.partition ≡ old.partition)
    × ((a : ℕ) → has_stream new a ≡ has_stream old a)
