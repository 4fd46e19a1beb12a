use Rattle.std.proofs.Common.{rules}
use Rattle.drill.specs.Generator.{next_state}
use Rattle.drill.proofs.draws.Draws.draw.Goals as goal

pub returns-clause-state : goal.returns-clause-state
unfolding next_state
returns-clause-state c = search rules
