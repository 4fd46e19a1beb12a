use Rattle.std.proofs.Common.{◌≡◌, take}
use Rattle.std.specs.List.{list_all}
use Rattle.script.specs.inside.Readers.{is_lower_digit}
use Rattle.script.proofs.message.are_lower_digits.Given as goal

abbrev pub invariant-loop-digit : goal.invariant-loop-digit
invariant-loop-digit l = l.all ≡ list_all is_lower_digit (take l.digit-index l.word)
