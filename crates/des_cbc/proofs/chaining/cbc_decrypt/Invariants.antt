use Rattle.std.proofs.Common.{◌≡◌, ◌*◌, ◌/◌, ◌++◌, map, reverse, take, length}
use Rattle.des_cbc.specs.Bits.{bits, text_bytes}
use Rattle.des_cbc.specs.Chaining.{unchain}
use Rattle.des_cbc.specs.inside.Words.{round_key}
use Rattle.des_cbc.proofs.ChainWalk.{rest_bits}
use Rattle.des_cbc.proofs.chaining.cbc_decrypt.Given as goal

abbrev pub invariant-loop-i : goal.invariant-loop-i
invariant-loop-i l =
    let ks = reverse (map round_key l.keys) in
    let n = length l.sealed / 8 in
    take (8 * l.i) l.out ++ text_bytes (unchain ks (bits 64 l.before) (rest_bits l.sealed n l.i))
    ≡ text_bytes (unchain ks (bits 64 l.initial.before) (rest_bits l.sealed n 0))
