-- What a list of pieces gives at its newest.
use Rattle.std.specs.Prelude.{ℕ, List, [], ◌∷◌, Option, Some, None, if◌then◌else◌}
use Rattle.std.specs.Global.{Vec}
use Rattle.frame.specs.Pieces.{PieceView, used_bytes}
use Rattle.window.specs.ListRule.{completes, body}

abbrev pub bytes_in : Option PieceView → Option (List ℕ)
bytes_in None = None
bytes_in (Some x) = Some (used_bytes x)

abbrev pub items_in : Option (Vec ℕ) → Option (List ℕ)
items_in None = None
items_in (Some bytes) = Some bytes.items

-- the message that the newest piece completes after the others, if it completes one
abbrev pub completed : List PieceView → Option (List ℕ)
completed [] = None
completed (x ∷ h) = if completes h x then Some (body (x ∷ h) x.message) else None
