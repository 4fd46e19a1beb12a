-- What is kept of versions.
use Rattle.std.specs.Prelude.{ℕ, ◌<◌, ◌≤◌, ◌^◌, List, length, slice_index}

pub record AreVersions (versions : List ℕ) : Type 0 where
  pub some : 1 ≤ length versions
  pub few : length versions ≤ 64
  pub small : (i : ℕ) → slice_index versions i < 2 ^ 56
