-- The places of one message, each with its bytes or none.
use Rattle.std.specs.Prelude.{ℕ, ◌+◌, List, [], ◌∷◌, length, Bool, false, not, ◌==◌, ◌&&◌, Option, Some, None, is_some, replicate, if◌then◌else◌}
use Rattle.std.specs.List.{list_all}
use Rattle.std.proofs.Math.ListN.{get_or, set}
use Rattle.frame.specs.Pieces.{PieceView, used_bytes}
use Rattle.frame_pool.specs.Pools.{joined}

-- the places 0 to last, all empty
abbrev pub nothing_held : ℕ → List (Option (List ℕ))
nothing_held last = replicate (last + 1) None

-- how many places are empty
abbrev pub empty_count : List (Option (List ℕ)) → ℕ
empty_count [] = 0
empty_count (None ∷ places) = empty_count places + 1
empty_count (Some bytes ∷ places) = empty_count places

-- whether a piece has these places, and its own is empty
abbrev pub has_room_for : List (Option (List ℕ)) → PieceView → Bool
has_room_for places x = x.last + 1 == length places && not (is_some (get_or places x.piece None))

-- the places with a piece more
abbrev pub with_piece : List (Option (List ℕ)) → PieceView → List (Option (List ℕ))
with_piece places x = set places x.piece (Some (used_bytes x))

-- the places with a piece more, if it has room
abbrev pub put_in : List (Option (List ℕ)) → PieceView → List (Option (List ℕ))
put_in places x = if has_room_for places x then with_piece places x else places

-- the places of a message, empty ones where nothing of it was held
abbrev pub or_new : List (Option (List ℕ)) → ℕ → List (Option (List ℕ))
or_new [] last = nothing_held last
or_new (place ∷ places) last = place ∷ places

-- the places of its message after a piece came
abbrev pub after_piece : List (Option (List ℕ)) → PieceView → List (Option (List ℕ))
after_piece places x = put_in (or_new places x.last) x

-- whether there are places, and none is empty
abbrev pub is_full : List (Option (List ℕ)) → Bool
is_full [] = false
is_full (place ∷ places) = list_all is_some (place ∷ places)

-- how many bytes the places have together, if none is empty
abbrev pub full_length : List (Option (List ℕ)) → Option ℕ
full_length places = if is_full places then Some (length (joined places)) else None
