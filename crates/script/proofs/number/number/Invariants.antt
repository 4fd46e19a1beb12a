use Rattle.std.proofs.Common.{◌≡◌, ◌≤◌, drop}
use Rattle.std.specs.Str.{all_ascii_digits}
use Rattle.script.specs.inside.Readers.{value_on}
use Rattle.script.proofs.number.number.Given as goal

-- the digits that are left make of `n` what all digits make
abbrev pub invariant-loop-digit : goal.invariant-loop-digit
invariant-loop-digit l = record {
  value : value_on l.n (drop l.digit-index l.word) ≡ value_on 0 l.word;
  digits : all_ascii_digits (drop l.digit-index l.word) ≡ all_ascii_digits l.word;
  most : l.n ≤ l.high;
}
