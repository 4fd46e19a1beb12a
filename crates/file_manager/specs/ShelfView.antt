use Rattle.std.specs.Prelude.{ℕ}
use Rattle.machine.specs.Files.{Directory}

-- what is kept of a level: its names with the versions of their blocks, and how many were drawn
pub record ShelfView : Type 0 where
  pub names : Directory
  pub drawn : ℕ
