use Rattle.std.proofs.Common.{rules}
use Rattle.drill.specs.Rosters.{drill_roster}
use Rattle.drill.proofs.roster.drill_roster.Goals as goal

pub returns : goal.returns
unfolding drill_roster
returns c = search rules
