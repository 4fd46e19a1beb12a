use Rattle.std.proofs.Common.{◌≡◌, ◌-◌, ◌≤◌, length}
use Rattle.file_calls.specs.inside.Reading.{names_behind, names_in}
use Rattle.file_calls.proofs.fields.read_names.Given as goal

abbrev pub invariant-loop-name : goal.invariant-loop-name
invariant-loop-name l = record {
  left : names_behind (l._name-end - l._name) l.names l.rest ≡ names_in l.bytes;
  made : length l.names ≡ l._name;
  few : l._name-end ≤ 128;
}
