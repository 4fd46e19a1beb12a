use Rattle.std.proofs.Common.{◌-◌, ◌*◌, ◌/◌, Bool, List, map, length, refl, ap₂, ◌∙◌, arith}
use Rattle.des_cbc.specs.Bits.{bits, text_bytes}
use Rattle.des_cbc.specs.inside.Words.{round_key}
use Rattle.des_cbc.proofs.ChainWalk.{rest_bits, all_bits, no_bits, written_more}
use Rattle.des_cbc.proofs.SealWalk.{both_chains, both-next, both-last, sealed_whole}
use Rattle.des_cbc.proofs.sealing.seal_blocks.Goals as goal

pub loop-i-init : goal.loop-i-init
loop-i-init c = refl

pub loop-i-preserved : goal.loop-i-preserved
loop-i-preserved c =
    let main = map round_key c.args.main.now in
    let check = map round_key c.args.check.now in
    let plain = c.args.plain.now in
    let n = length plain / 8 in
    let two = c.encipher_two-output in
    let next = both-next main check plain n c.loop-i.i c.load-block.result c.loop-i.before c.loop-i.check_before
    two.result.0 two.result.1 (omega arith) c.load-block.ensures two.ensures.first two.ensures.second in
    written_more c.loop-i.out c.store.new.out _ c.loop-i.i _ _ _ c.store.ensures c.loop-i.invariant next

pub returns : goal.returns
returns c =
    let main = map round_key c.args.main.now in
    let check = map round_key c.args.check.now in
    let plain = c.args.plain.now in
    let n = length plain / 8 in
    let last = both-last main check c.loop-i.before c.loop-i.check_before c.encipher.result
    (rest_bits plain n c.loop-i.i) (no_bits plain n c.loop-i.i (omega arith)) c.encipher.ensures in
    sealed_whole c.loop-i.out c.store-2.new.out _ (8 * c.loop-i.i) (length plain) _ _ (omega arith) (omega arith)
    c.store-2.ensures c.loop-i.invariant last
    ∙ ap₂ (λ (x : List Bool) (bs : List (List Bool)). text_bytes (both_chains main check (bits 64 c.args.nonce) x bs))
    c.encipher-check_before.ensures
    (all_bits plain n (n - 0) (8 * 0) refl (omega arith) (omega arith))
