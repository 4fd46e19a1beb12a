use Rattle.std.proofs.Common.{◌/◌, map, length}
use Rattle.des_cbc.specs.inside.Words.{round_key}
use Rattle.des_cbc.proofs.OpenWalk.{IsUnderWay}
use Rattle.des_cbc.proofs.sealing.open_blocks.Given as goal

abbrev pub invariant-loop-i : goal.invariant-loop-i
invariant-loop-i l =
    IsUnderWay (map round_key l.backward) (map round_key l.check) l.nonce l.text l.plain (length l.text / 8) l.i
    l.before l.check_input
