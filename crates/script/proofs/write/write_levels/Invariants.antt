use Rattle.std.proofs.Common.{◌≡◌, ◌++◌, take, map}
use Rattle.std.specs.List.{flat_map}
use Rattle.script.specs.Spelling.{ended_text}
use Rattle.script.specs.Text.{line_of_level}
use Rattle.script.proofs.write.write_levels.Given as goal

abbrev pub invariant-loop-i : goal.invariant-loop-i
invariant-loop-i l = l.text.items ≡ l.initial.text.items
    ++ flat_map ended_text (map line_of_level (take l.i l.roster.levels))
