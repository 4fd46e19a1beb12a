use Rattle.std.proofs.Common.{◌≡◌, ◌*◌, ◌/◌, ◌++◌, map, take, length}
use Rattle.des_cbc.specs.Bits.{bits, text_bytes}
use Rattle.des_cbc.specs.inside.Words.{round_key}
use Rattle.des_cbc.proofs.ChainWalk.{rest_bits}
use Rattle.des_cbc.proofs.SealWalk.{both_chains}
use Rattle.des_cbc.proofs.sealing.seal_blocks.Given as goal

abbrev pub invariant-loop-i : goal.invariant-loop-i
invariant-loop-i l =
    let main = map round_key l.main in
    let check = map round_key l.check in
    let n = length l.plain / 8 in
    take (8 * l.i) l.out ++ text_bytes (both_chains main check (bits 64 l.before) (bits 64 l.check_before)
    (rest_bits l.plain n l.i))
    ≡ text_bytes (both_chains main check (bits 64 l.initial.before) (bits 64 l.initial.check_before)
    (rest_bits l.plain n 0))
