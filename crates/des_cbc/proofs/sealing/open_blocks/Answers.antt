use Rattle.std.proofs.Common.{◌/◌, map, length, bit_xor, refl, arith, rules}
use Rattle.std.proofs.lemmas.Nat.{xor_lt}
use Rattle.std.proofs.lemmas.Bool.Decides.{Decides-eqb}
use Rattle.des_cbc.specs.inside.Words.{round_key}
use Rattle.des_cbc.proofs.OpenWalk.{under_way-first, under_way-next, unsealed_is}
use Rattle.des_cbc.proofs.sealing.open_blocks.Goals as goal

pub loop-i-init : goal.loop-i-init
loop-i-init c =
    under_way-first (map round_key c.args.backward.now) (map round_key c.args.check.now) c.args.nonce c.args.text.now
    c.args.plain.now (length c.args.text.now / 8) refl

pub loop-i-preserved : goal.loop-i-preserved
loop-i-preserved c =
    let two = c.encipher_two-output in
    under_way-next (map round_key c.args.backward.now) (map round_key c.args.check.now) c.args.nonce c.args.text.now
    c.loop-i.plain c.store.new.out
    (length c.args.text.now / 8) c.loop-i.i c.load-block.result c.loop-i.before c.loop-i.check_input two.result.0
    two.result.1 (omega arith) (omega arith)
    c.load-block.ensures two.ensures.first two.ensures.second c.store.ensures c.loop-i.invariant

pub returns : goal.returns
returns c =
    let two = c.encipher_two-output-2 in
    let same = Decides-eqb (bit_xor two.result.0 c.loop-i.before) two.result.1 in
    unsealed_is (map round_key c.args.backward.now) (map round_key c.args.check.now) c.args.nonce c.args.text.now
    c.loop-i.plain
    (length c.args.text.now / 8) c.loop-i.i (length c.loop-i.plain) c.load-last.result c.loop-i.before
    c.loop-i.check_input two.result.0 two.result.1 _ (omega arith) (omega arith) (omega arith)
    c.load-last.ensures two.ensures.first two.ensures.second
    (xor_lt 64 two.result.0 c.loop-i.before (search rules) (omega arith)) (search rules) (same.0, same.1)
    c.loop-i.invariant
