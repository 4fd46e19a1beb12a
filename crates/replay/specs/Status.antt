use Rattle.std.specs.Prelude.{ℕ}
use Rattle.replay.specs.declared.status.Status.{Status}
use Rattle.replay.specs.declared.status.Status.TheVariants.{Fine, Usage, Refused, ReadFault, WriteFault, Opened, OutOfMemory}

abbrev pub code_of : Status → ℕ
code_of Fine = 0
code_of Usage = 1
code_of (Refused refusal) = 2
code_of ReadFault = 3
code_of WriteFault = 4
code_of (Opened line) = 5
code_of OutOfMemory = 6
