use Rattle.std.proofs.Common.{◌≡◌, ◌*◌, ◌/◌, ◌^◌, bit_and, map, drop}
use Rattle.des_cbc.specs.Cipher.{rounds}
use Rattle.des_cbc.specs.inside.Words.{round_key}
use Rattle.des_cbc.proofs.RoundWalk.{halves}
use Rattle.des_cbc.proofs.rounds.encipher_permuted.Given as goal

abbrev pub invariant-loop-i : goal.invariant-loop-i
invariant-loop-i l =
    rounds (drop (2 * l.i) (map round_key l.keys)) (halves l.left l.right)
    ≡ rounds (map round_key l.keys) (halves (l.permuted / 2 ^ 32) (bit_and l.permuted 0xffffffff))
