-- What a writing of a whole text leaves in a sink. Bytes that aren't told are `None`.
use Rattle.std.specs.Prelude.{ℕ, ◌<◌, List, length, take, Option}
use Rattle.std.specs.Io.KnownBytes.{Appends}

-- the bytes that were written grow by the beginning of the text, and not by all of it
abbrev pub AppendsProperPrefix : Option (List ℕ) → Option (List ℕ) → List ℕ → Type 0
AppendsProperPrefix written now text = (count : ℕ) × (count < length text)
    × Appends written now (take count text)
