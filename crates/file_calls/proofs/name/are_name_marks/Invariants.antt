use Rattle.std.proofs.Common.{◌≡◌, drop}
use Rattle.std.specs.List.{list_all}
use Rattle.file_calls.specs.Names.{is_name_mark}
use Rattle.file_calls.proofs.name.are_name_marks.Given as goal

abbrev pub invariant-loop-byte : goal.invariant-loop-byte
invariant-loop-byte l =
    list_all is_name_mark (drop l.byte-index l.text) ≡ list_all is_name_mark l.text
