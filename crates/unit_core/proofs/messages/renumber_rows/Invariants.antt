use Rattle.std.proofs.Common.{◌≡◌, ◌++◌, take, drop, map, vec_capacity}
use Rattle.unit_core.specs.inside.Messages.{row_renumbered}
use Rattle.unit_core.proofs.messages.renumber_rows.Given as goal

abbrev pub invariant-loop-i : goal.invariant-loop-i
invariant-loop-i l = record {
  rows : l.rows.items ≡ map (row_renumbered l.places) (take l.i l.fn.rows.items) ++ drop l.i l.fn.rows.items;
  memory : vec_capacity l.rows ≡ vec_capacity l.fn.rows;
}
