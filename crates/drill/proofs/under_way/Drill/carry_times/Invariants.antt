use Rattle.std.proofs.Common.{◌≡◌, replicate}
use Rattle.drill.specs.Events.{carry}
use Rattle.drill.specs.inside.Counts.{with_events}
use Rattle.drill.proofs.under_way.Drill.carry_times.Given as goal

abbrev pub invariant-loop : goal.invariant-loop
invariant-loop l = l.self ≡ record l.initial.self {
  script = with_events l.initial.self.script (replicate l.counter (carry l.from l.to l.message));
}
