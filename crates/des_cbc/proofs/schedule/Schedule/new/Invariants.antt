use Rattle.std.proofs.Common.{◌≡◌, ◌^◌, ◌<◌, ◌++◌, map, take, drop, length}
use Rattle.des_cbc.specs.Tables.{shifts}
use Rattle.des_cbc.specs.Bits.{bits}
use Rattle.des_cbc.specs.Cipher.{round_keys}
use Rattle.des_cbc.specs.inside.Words.{round_key}
use Rattle.des_cbc.proofs.schedule.Schedule.new.Given as goal

abbrev pub invariant-loop-i : goal.invariant-loop-i
invariant-loop-i l =
    record {
      sixteen : length l.keys ≡ 16;
      below : l.halves < 2 ^ 56;
      done : take l.i (map round_key l.keys) ++ round_keys (drop l.i shifts) (take 28 (bits 56 l.halves))
          (drop 28 (bits 56 l.halves))
          ≡ round_keys shifts (take 28 (bits 56 l.initial.halves)) (drop 28 (bits 56 l.initial.halves));
    }
