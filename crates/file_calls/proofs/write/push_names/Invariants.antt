use Rattle.std.proofs.Common.{◌≡◌, ◌++◌, drop}
use Rattle.std.specs.List.{flat_map}
use Rattle.file_calls.specs.Spelling.{name_text}
use Rattle.file_calls.proofs.write.push_names.Given as goal

abbrev pub invariant-loop-name : goal.invariant-loop-name
invariant-loop-name l =
    l.text.items ++ flat_map name_text (drop l.name-index l.names) ≡ l.initial.text.items ++ flat_map name_text l.names
