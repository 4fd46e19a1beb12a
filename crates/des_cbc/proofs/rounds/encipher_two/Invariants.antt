use Rattle.std.proofs.Common.{◌≡◌, ◌*◌, ◌/◌, ◌^◌, bit_and, map, drop}
use Rattle.des_cbc.specs.Cipher.{rounds}
use Rattle.des_cbc.specs.inside.Words.{round_key}
use Rattle.des_cbc.proofs.RoundWalk.{halves}
use Rattle.des_cbc.proofs.rounds.encipher_two.Given as goal

abbrev pub invariant-loop-i : goal.invariant-loop-i
invariant-loop-i l =
    record {
      first : rounds (drop (2 * l.i) (map round_key l.first_keys)) (halves l.left l.right)
          ≡ rounds (map round_key l.first_keys) (halves (l.permuted / 2 ^ 32) (bit_and l.permuted 0xffffffff));
      second : rounds (drop (2 * l.i) (map round_key l.second_keys)) (halves l.other_left l.other_right)
          ≡ rounds (map round_key l.second_keys) (halves (l.other / 2 ^ 32) (bit_and l.other 0xffffffff));
    }
