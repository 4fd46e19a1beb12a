-- The step by which the next piece comes.
use Rattle.std.proofs.Common.{◌≡◌, Some, List, [], ◌∷◌, ◌++◌, length, take, drop, refl, append_assoc, append-nil}
use Rattle.frame.specs.Pieces.{PieceView}
use Rattle.ring_link.specs.Ends.{first, backlog_left}
use Rattle.ring_link.specs.Steps.{Moves}
use Rattle.ring_link.specs.Calls.{next_step}
use Rattle.ring_link.proofs.Pending.{drop_front, drop_whole}

-- with these in the ring and these waiting, all lists after the next piece are those after its step
pub settle_is_step : (received ring sent backlog : List PieceView) (x : PieceView) → first (ring ++ backlog) ≡ Some x
    → received ++ ring ≡ sent
    → Moves (next_step ring)
    (record { todo = []; backlog = backlog; ring = ring; received = received })
    (record {
      todo = [];
      backlog = backlog_left ring backlog;
      ring = drop (length (received ++ take 1 ring)) sent;
      received = received ++ x ∷ [];
    })
settle_is_step received [] sent [] x next order = cc
settle_is_step received [] sent (y ∷ backlog) x next order =
    let same : y ≡ x = cc in record {
      piece = x;
      empty = refl;
      todo = refl;
      backlog = rw same refl;
      ring = rw (← order, append-nil) (drop_whole received);
      received = refl;
    }
settle_is_step received (y ∷ ring) sent backlog x next order =
    let same : y ≡ x = cc in record {
      piece = x;
      todo = refl;
      backlog = refl;
      ring = rw (← order, same, ← append_assoc received (x ∷ []) ring, drop_front (received ++ x ∷ []) ring) refl;
      received = refl;
    }
