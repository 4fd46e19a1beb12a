use Rattle.std.proofs.Common.{◌≡◌, ◌*◌, ◌/◌, ◌++◌, map, take, length}
use Rattle.des_cbc.specs.Bits.{text_bytes}
use Rattle.des_cbc.specs.Chaining.{chain}
use Rattle.des_cbc.specs.inside.Words.{round_key, unpermuted}
use Rattle.des_cbc.proofs.ChainWalk.{rest_bits}
use Rattle.des_cbc.proofs.chaining.cbc_encrypt.Given as goal

abbrev pub invariant-loop-i : goal.invariant-loop-i
invariant-loop-i l =
    let ks = map round_key l.keys in
    let n = length l.plain / 8 in
    take (8 * l.i) l.out ++ text_bytes (chain ks (unpermuted l.before) (rest_bits l.plain n l.i))
    ≡ text_bytes (chain ks (unpermuted l.initial.before) (rest_bits l.plain n 0))
