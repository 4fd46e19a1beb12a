use Rattle.std.proofs.Common.{◌≡◌, ◌*◌, ◌%◌, ◌^◌}
use Rattle.des_cbc.specs.Tables.{choice_2}
use Rattle.des_cbc.specs.Bits.{bits, permute}
use Rattle.des_cbc.specs.inside.Words.{round_key}
use Rattle.des_cbc.proofs.schedule.permuted_choice_2.Given as goal

abbrev pub invariant-loop-j : goal.invariant-loop-j
invariant-loop-j l = round_key l.key ≡ permute choice_2 (bits 56 (l.halves % 2 ^ (7 * l.j)))
