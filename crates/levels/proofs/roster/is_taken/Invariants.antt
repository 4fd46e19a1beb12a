use Rattle.std.proofs.Common.{◌≡◌, ◌||◌, drop}
use Rattle.std.specs.List.{list_any}
use Rattle.std.specs.Str.{bytes_eq}
use Rattle.levels.specs.Rosters.{is_same_level}
use Rattle.levels.proofs.roster.is_taken.Given as goal

abbrev pub invariant-loop-row : goal.invariant-loop-row
invariant-loop-row l =
    list_any (λ row. bytes_eq row.name l.name || is_same_level row.level l.level) (drop l.row-index l.levels)
    ≡ list_any (λ row. bytes_eq row.name l.name || is_same_level row.level l.level) l.levels
