use Rattle.std.proofs.Common.{◌≡◌, ◌≤◌, ◌++◌, drop, length}
use Rattle.desk.specs.inside.Merging.{merged}
use Rattle.desk.proofs.merging.tell.Given as goal

abbrev pub invariant-loop-waiting : goal.invariant-loop-waiting
invariant-loop-waiting l = record {
  few : l.frames ≤ l.waiting-index;
  within : l.rows ≤ length l.given;
  rest : l.lines.items
      ++ merged l.partition l.bodies (drop l.waiting-index l.order) (drop l.sends l.answers) l.frames
      (drop l.rows l.given)
      ≡ l.fn.lines.items ++ merged l.partition l.bodies l.order l.answers 0 l.given;
}
