-- What each step keeps.
use Rattle.std.specs.Prelude.{◌≤◌}
use Rattle.drill.specs.declared.draws.Step.{Step}
use Rattle.drill.specs.Places.{IsHost}

-- the fields of a step are in their ranges
pub record IsStep (step : Step) : Type 0 where
  pub host : IsHost step.host
  pub kind : step.kind ≤ 7
  pub value : step.value ≤ 97
