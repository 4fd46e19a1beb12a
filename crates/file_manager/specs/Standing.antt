-- Which calls a manager stands for.
use Rattle.std.specs.Prelude.{◌≡◌, ℕ, ◌<◌, List, length, map, Some, slice_get}
use Rattle.levels.specs.Rosters.{RosterView}
use Rattle.machine.specs.Files.{CallRow, Files, files}
use Rattle.file_manager.specs.ShelfView.{ShelfView}
use Rattle.file_manager.specs.ManagerView.{ManagerView}

-- of a level's files a manager keeps the names, and how many versions were drawn
abbrev pub shelf_of : Files → ShelfView
shelf_of files = record { names = files.names; drawn = length files.writes }

-- a manager stands for a list of calls where it has the levels of the roster, and of each level
-- the names and the number of versions that the files have after those calls
pub record StandsFor (roster : RosterView) (manager : ManagerView) (calls : List CallRow) :
    Type 0 where
  pub levels : manager.levels ≡ map (λ row. row.level) roster.levels
  pub shelves : (level : ℕ) → level < length roster.levels
      → slice_get manager.shelves level ≡ Some (shelf_of (files level calls))
