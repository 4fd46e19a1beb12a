use Rattle.drill.proofs.Parties.{drill_complete}
use Rattle.drill.proofs.under_way.Drill.start.Goals as goal

pub start-requires : goal.start-requires
start-requires c = rw c.in_ok-roster.ensures drill_complete
