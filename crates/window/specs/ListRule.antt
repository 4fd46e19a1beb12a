-- When a list of pieces of one sender gives a message. The list may hold any pieces at all; the
-- newest comes first.
use Rattle.std.specs.Prelude.{ℕ, ◌+◌, List, [], ◌∷◌, Bool, false, not, nat_lt, ◌==◌, ◌&&◌, Option, Some, None, if◌then◌else◌, unwrap_or, map}
use Rattle.std.specs.List.{list_any, list_all, range_with_len, flat_map}
use Rattle.frame.specs.Pieces.{PieceView, used_bytes}
use Rattle.frame.specs.Ahead.{messages_ahead}

-- what an earlier piece gave, else what this one gives
abbrev pub or_else : {A : Type 0} → Option A → Option A → Option A
or_else (Some earlier) own = Some earlier
or_else None own = own

-- the last place of message j, as the first of its pieces has it
abbrev pub last_of : List PieceView → ℕ → Option ℕ
last_of [] j = None
last_of (x ∷ h) j = or_else (last_of h j) (if x.message == j then Some x.last else None)

-- whether a piece is of message j at place i, and has this last place
abbrev pub is_at : ℕ → ℕ → ℕ → PieceView → Bool
is_at j last i x = x.message == j && x.piece == i && x.last == last

-- whether place i of message j is held
abbrev pub is_held : List PieceView → ℕ → ℕ → ℕ → Bool
is_held h j last i = list_any (is_at j last i) h

-- the places of a message
abbrev pub places_to : ℕ → List ℕ
places_to last = range_with_len 0 (last + 1)

abbrev pub is_whole_to : List PieceView → ℕ → Option ℕ → Bool
is_whole_to h j None = false
is_whole_to h j (Some last) = list_all (is_held h j last) (places_to last)

-- whether there is a piece of message j, and all its places are held
abbrev pub is_whole : List PieceView → ℕ → Bool
is_whole h j = is_whole_to h j (last_of h j)

-- whether there is a piece of a message with a greater number than j
abbrev pub has_newer : List PieceView → ℕ → Bool
has_newer h j = list_any (λ x. nat_lt j x.message) h

-- whether the next piece completes its message, where the messages with these numbers were given:
-- it is whole now, was not before, no piece has come of one more than three numbers greater, and
-- no message with a greater number was given
abbrev pub completes_past : List ℕ → List PieceView → PieceView → Bool
completes_past given h x =
    is_whole (x ∷ h) x.message && not (is_whole h x.message)
    && not (has_newer h (x.message + messages_ahead)) && not (list_any (nat_lt x.message) given)

-- the numbers of the messages that the pieces gave, the last first
abbrev pub given_in : List PieceView → List ℕ
given_in [] = []
given_in (x ∷ h) =
    if completes_past (given_in h) h x then x.message ∷ given_in h else given_in h

-- whether the next piece completes its message
abbrev pub completes : List PieceView → PieceView → Bool
completes h x = completes_past (given_in h) h x

-- the bytes of the first piece at place i of message j
abbrev pub bytes_at : List PieceView → ℕ → ℕ → ℕ → Option (List ℕ)
bytes_at [] j last i = None
bytes_at (x ∷ h) j last i =
    or_else (bytes_at h j last i) (if is_at j last i x then Some (used_bytes x) else None)

abbrev pub places_held_to : List PieceView → ℕ → Option ℕ → List (Option (List ℕ))
places_held_to h j None = []
places_held_to h j (Some last) = map (bytes_at h j last) (places_to last)

-- the places of message j, each with the bytes of its first piece, or none where none came
abbrev pub places_held : List PieceView → ℕ → List (Option (List ℕ))
places_held h j = places_held_to h j (last_of h j)

abbrev pub body_to : List PieceView → ℕ → Option ℕ → List ℕ
body_to h j None = []
body_to h j (Some last) = flat_map (λ i. unwrap_or (bytes_at h j last i) []) (places_to last)

-- the bytes of message j, joined by place
abbrev pub body : List PieceView → ℕ → List ℕ
body h j = body_to h j (last_of h j)
