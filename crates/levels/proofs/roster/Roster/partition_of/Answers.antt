use Rattle.std.specs.Prelude.{length}
use Rattle.levels.proofs.Homes.{home_within}
use Rattle.levels.proofs.roster.Roster.partition_of.Goals as goal

pub returns-in-Host-clause-found : goal.returns-in-Host-clause-found
returns-in-Host-clause-found c = rw (c.in-Host.is, ← c.self.view_is) c.partition_of.ensures

pub returns-in-Host-clause-within : goal.returns-in-Host-clause-within
returns-in-Host-clause-within c =
    rw (← c.self.view_is, c.partition_of.ensures) (home_within (length c.self.inside.levels.items) c.self.inside.hosts
    c.in-Host.address c.self.invariant.hosts)
