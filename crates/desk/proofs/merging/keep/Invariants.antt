use Rattle.std.proofs.Common.{◌≡◌, ◌≤◌, drop}
use Rattle.desk.specs.inside.Merging.{wire_merged, Covers}
use Rattle.desk.proofs.merging.keep.Given as goal

abbrev pub invariant-loop-waiting : goal.invariant-loop-waiting
invariant-loop-waiting l = record {
  few : l.sends ≤ l.waiting-index;
  covers : Covers (drop l.waiting-index l.order) (drop l.sends l.answers) (drop l.at l.sealed);
  rest : wire_merged l.partition l.wire (drop l.waiting-index l.order) (drop l.sends l.answers) (drop l.at l.sealed)
      ≡ wire_merged l.partition l.fn.wire l.order l.answers l.sealed;
}
