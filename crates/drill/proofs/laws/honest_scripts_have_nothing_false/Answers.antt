use Rattle.drill.proofs.NothingFalse.{nothing_false}
use Rattle.drill.proofs.laws.honest_scripts_have_nothing_false.Goals as goal

pub returns : goal.returns
returns c = nothing_false
