use Rattle.std.proofs.Common.{◌≡◌}
use Rattle.std.specs.Prelude.{replicate}
use Rattle.file_manager.specs.inside.Shelves.{empty_shelf}
use Rattle.file_manager.proofs.manager.empty_shelves.Given as goal

abbrev pub invariant-loop-made : goal.invariant-loop-made
invariant-loop-made l = l.shelves.items ≡ replicate l._made empty_shelf
