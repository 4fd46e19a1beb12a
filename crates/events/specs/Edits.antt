-- Changes of a frame's bytes.
use Rattle.std.specs.Prelude.{ℕ, ◌<◌, ◌≤◌, List, length, map, All}
use Rattle.std.specs.List.Sorted.{IsStrictlyIncreasing}

-- one to eight pairs of an offset, strictly rising below 128, and what the byte there is changed by
pub record AreEdits (pairs : List (ℕ × ℕ)) : Type 0 where
  pub some : 0 < length pairs
  pub few : length pairs ≤ 8
  pub offsets : All (λ pair. pair.0 < 128) pairs
  pub changes : All (λ pair. (0 < pair.1) × (pair.1 < 256)) pairs
  pub rising : IsStrictlyIncreasing (map (λ pair. pair.0) pairs)
