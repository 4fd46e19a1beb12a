use Rattle.std.proofs.Common.{◌≡◌, ◌++◌, drop}
use Rattle.levels.specs.Rosters.{addresses_but}
use Rattle.levels.proofs.roster.push_addresses.Given as goal

-- what is found so far and what the other rows add is what all add
abbrev pub invariant-loop-row : goal.invariant-loop-row
invariant-loop-row l =
    l.found.items ++ addresses_but (drop l.row-index l.hosts) l.partition l.but
    ≡ l.fn.found.items ++ addresses_but l.hosts l.partition l.but
