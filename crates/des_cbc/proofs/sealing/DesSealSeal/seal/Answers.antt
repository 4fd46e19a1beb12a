use Rattle.std.proofs.Common.{◌≡◌, ◌++◌, length, drop, ap, ◌∙◌, arith, rules, take_at, length-append}
use Rattle.seal_core.proofs.Joined.{last_part}
use Rattle.des_cbc.proofs.Sealed.{sealed_is}
use Rattle.des_cbc.proofs.sealing.DesSealSeal.seal.Goals as goal

pub returns : goal.returns
returns c =
    let first = c.copy_from_slice.new.self in
    let out = c.args.out.now in
    let eight : length first ≡ 8 = ap length c.copy_from_slice.ensures.after ∙ search rules in
    last_part 8 _ (first ++ drop 8 out) first c.seal_blocks.new.out (take_at first (drop 8 out) 8 eight)
    (omega (arith, length-append first (drop 8 out)))
    ∙ sealed_is c.args.keys.now c.args.nonce c.args.plain.now first c.seal_blocks.new.out _ _ c.from_be_bytes.result
    (record {
      main_is = c.keys.ensures ∙ c.new-main.ensures;
      check_is = c.keys-2.ensures ∙ c.new-check.ensures;
      word_is = c.from_be_bytes.ensures;
    })
    c.copy_from_slice.ensures.after c.seal_blocks.ensures
