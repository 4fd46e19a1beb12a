-- What is on its way, and what is after its first piece came.
use Rattle.std.proofs.Common.{◌≡◌, List, [], ◌∷◌, ◌++◌, length, drop, refl, append_assoc}
use Rattle.frame.specs.Pieces.{PieceView}

-- what is behind a front of a list
pub drop_front : (front rest : List PieceView) → drop (length front) (front ++ rest) ≡ rest
drop_front [] rest = refl
drop_front (x ∷ front) rest = drop_front front rest

-- behind a whole list there is nothing
pub drop_whole : (xs : List PieceView) → drop (length xs) xs ≡ []
drop_whole [] = refl
drop_whole (x ∷ xs) = drop_whole xs

-- where a piece is known in the ring, it comes first, and what is behind it stays on its way
pub known_comes_first : (received known sent backlog rest : List PieceView) (x : PieceView)
    → received ++ known ≡ sent → known ≡ x ∷ rest
    → drop (length received) sent ++ backlog
    ≡ x ∷ (drop (length (received ++ x ∷ [])) sent ++ backlog)
known_comes_first received known sent backlog rest x order next =
    rw (← order, next, drop_front, ← append_assoc received (x ∷ []) rest, drop_front)
