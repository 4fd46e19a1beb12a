use Rattle.std.proofs.Common.{◌≡◌, ◌*◌}
use Rattle.drill.specs.Generator.{state_after}
use Rattle.drill.specs.Steps.{steps}
use Rattle.drill.specs.Drills.{drill}
use Rattle.drill.specs.inside.Counts.{AreSends, AreCalls}
use Rattle.drill.proofs.drill.drill_script.Given as goal

abbrev pub invariant-loop : goal.invariant-loop
invariant-loop l = record {
  state : l.draws.state ≡ state_after l.seed (3 * l.counter);
  script : l.drill.script ≡ drill l.seed l.counter;
  sends : AreSends (steps l.seed l.counter) l.drill.sends;
  calls : AreCalls (steps l.seed l.counter) l.drill.calls;
}
