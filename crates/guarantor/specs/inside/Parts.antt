-- Where a record's plain text has its content.
use Rattle.std.specs.Prelude.{ℕ, List, [], ◌∷◌, take, drop, slice_index}
use Rattle.std.specs.Int.{w16, from_be_bytes}

-- the length that the bytes 2 and 3 say
abbrev pub size_at : List ℕ → ℕ
size_at plain = from_be_bytes w16 (slice_index plain 2 ∷ slice_index plain 3 ∷ [])

-- what stands there
abbrev pub content_at : List ℕ → List ℕ
content_at plain = take (size_at plain) (drop 48 plain)
