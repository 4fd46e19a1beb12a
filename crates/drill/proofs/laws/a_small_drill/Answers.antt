use Rattle.std.proofs.Common.{refl}
use Rattle.drill.specs.Generator.{next_state, state_after}
use Rattle.drill.specs.Drills.{drill}
use Rattle.drill.proofs.laws.a_small_drill.Goals as goal

pub returns : goal.returns
unfolding drill next_state state_after
returns c = refl
