use Rattle.std.proofs.Common.{◌≡◌, take}
use Rattle.std.specs.List.{flat_map}
use Rattle.machine.specs.Text.{frame_text}
use Rattle.replay.proofs.wire.frame_lines.Given as goal

abbrev pub invariant-loop-row : goal.invariant-loop-row
invariant-loop-row l = l.out.items ≡ flat_map (frame_text l.roster) (take l.row-index l.frames)
