-- When a message is given, by the pieces that have arrived.
use Rattle.std.specs.Prelude.{ℕ, ◌+◌, List, Bool, false, not, ◌==◌, nat_lt, ◌&&◌, Option, Some, None}
use Rattle.std.specs.List.{list_any, list_all, range_with_len}
use Rattle.frame.specs.Pieces.{pieces}

-- whether piece i of message j is in a set of pairs of a message's number and a piece's number
abbrev pub has_piece : List (ℕ × ℕ) → ℕ → ℕ → Bool
has_piece arrived j i = list_any (λ p. p.0 == j && p.1 == i) arrived

-- whether message j was sent and all its pieces are there
abbrev pub has_all : Option (List ℕ) → List (ℕ × ℕ) → ℕ → Bool
has_all None arrived j = false
has_all (Some message) arrived j =
    list_all (has_piece arrived j) (range_with_len 0 (pieces message))

-- whether a piece of a message greater than j is there
abbrev pub has_later : List (ℕ × ℕ) → ℕ → Bool
has_later arrived j = list_any (λ p. nat_lt j p.0) arrived

-- message j is given where all its pieces are there now and not all were before, no piece of a
-- message greater than j + ahead was there before, and no message greater than j was given before
abbrev pub is_given : ℕ → Option (List ℕ) → List (ℕ × ℕ) → List (ℕ × ℕ) → List ℕ → ℕ → Bool
is_given ahead message before now given j =
    has_all message now j && not (has_all message before j)
    && not (has_later before (j + ahead)) && not (list_any (nat_lt j) given)
