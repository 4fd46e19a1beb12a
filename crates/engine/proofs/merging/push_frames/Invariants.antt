use Rattle.std.proofs.Common.{◌≡◌, ◌++◌, take}
use Rattle.engine.specs.inside.Merging.{rows_of}
use Rattle.engine.proofs.merging.push_frames.Given as goal

abbrev pub invariant-loop-piece : goal.invariant-loop-piece
invariant-loop-piece l =
    l.rows.items ≡ l.initial.rows.items ++ rows_of l.stream l.number 0 (take l.piece l.frames)
