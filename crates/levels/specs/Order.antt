-- The order of levels.
use Rattle.std.specs.Prelude.{ℕ, ◌≤◌, Bool, nat_le, ◌&&◌, ◌==◌, bit_and, IsBitSet}
use Rattle.levels.specs.declared.level.Level.{Level}

-- the rank is no greater, and each category is one of the other's
pub record IsAtMost (x y : Level) : Type 0 where
  pub rank : x.rank ≤ y.rank
  pub cats : (category : ℕ) → IsBitSet x.cats category → IsBitSet y.cats category

-- the same as a test: what the two have in common is all that the first has
abbrev pub is_at_most : Level → Level → Bool
is_at_most x y = nat_le x.rank y.rank && bit_and x.cats y.cats == x.cats
