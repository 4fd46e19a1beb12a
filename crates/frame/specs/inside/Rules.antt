-- The rules of a piece, as its plain text has them.
use Rattle.std.specs.Prelude.{◌≡◌, ℕ, ◌+◌, ◌-◌, ◌<◌, ◌≤◌, List, take, drop, replicate, slice_index}

-- a piece at this place, where the last one is at `end`, may carry so many bytes
pub record Fits (place end count : ℕ) : Type 0 where
  pub within : place ≤ end
  pub last : end ≤ 63
  pub full : place < end → count ≡ 88
  pub some : 0 < end → 0 < count
  pub used : count ≤ 88

-- a plain text with these rules, and zeros where they are to be
pub record KeepsRules (plain : List ℕ) : Type 0 where
  pub fits : Fits (slice_index plain 6) (slice_index plain 7) (slice_index plain 8)
  pub six : take 6 (drop 10 plain) ≡ replicate 6 0
  pub rest : drop (16 + slice_index plain 8) plain ≡ replicate (88 - slice_index plain 8) 0
