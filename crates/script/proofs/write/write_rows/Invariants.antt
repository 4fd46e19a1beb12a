use Rattle.std.proofs.Common.{◌≡◌, ◌++◌, take, map}
use Rattle.std.specs.List.{flat_map}
use Rattle.script.specs.Spelling.{ended_text}
use Rattle.script.specs.Text.{line_of_row}
use Rattle.script.proofs.write.write_rows.Given as goal

abbrev pub invariant-loop-row : goal.invariant-loop-row
invariant-loop-row l =
    l.text.items ≡ l.initial.text.items
    ++ flat_map ended_text (map (line_of_row l.roster) (take l.row-index l.rows))
