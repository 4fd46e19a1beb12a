-- What a reading to the end takes from a source. Bytes that aren't told are `None`.
use Rattle.std.specs.Prelude.{◌≡◌, ℕ, ◌+◌, ◌≤◌, List, length, Option, Result, Err}
use Rattle.std.specs.Io.KnownBytes.{Consumes}
use Rattle.dss_io.specs.declared.reading.ReadStop.{ReadStop}
use Rattle.dss_io.specs.declared.reading.ReadStop.TheVariants.{TooMany}

-- the first bytes of what was left are gone, that many
abbrev pub Takes : Option (List ℕ) → Option (List ℕ) → ℕ → Type 0
Takes left now count = (bytes : List ℕ) × (length bytes ≡ count) × Consumes left now bytes

-- the same, at most that many
abbrev pub TakesAtMost : Option (List ℕ) → Option (List ℕ) → ℕ → Type 0
TakesAtMost left now most = (count : ℕ) × (count ≤ most) × Takes left now count

-- more than `limit` bytes are taken exactly at `TooMany`, and then one more
abbrev pub TakesByAnswer : {T : Type 0} → ℕ → Option (List ℕ) → Option (List ℕ) → Result T ReadStop
    → Type 0
TakesByAnswer limit left now (Err TooMany) = Takes left now (limit + 1)
TakesByAnswer limit left now _ = TakesAtMost left now limit
