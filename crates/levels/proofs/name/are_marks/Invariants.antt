use Rattle.std.proofs.Common.{◌≡◌, drop}
use Rattle.std.specs.List.{list_all}
use Rattle.levels.specs.Names.{is_name_mark}
use Rattle.levels.proofs.name.are_marks.Given as goal

abbrev pub invariant-loop-mark : goal.invariant-loop-mark
invariant-loop-mark l = list_all is_name_mark (drop l.mark-index l.text) ≡ list_all is_name_mark l.text
