use Rattle.std.proofs.Common.{◌≡◌, ◌∙◌, arith, rules, length}
use Rattle.des_cbc.proofs.RoundWalk.{forward, output_is, permuted_again}
use Rattle.des_cbc.proofs.rounds.encipher_permuted.Goals as goal

pub loop-i-preserved : goal.loop-i-preserved
loop-i-preserved c =
    let sixteen : length c.args.keys.now ≡ 16 = search rules in
    forward c.args.keys.now c.loop-i.i c.loop-i.left c.loop-i.right c.cipher_function-left.result
    c.cipher_function-right.result sixteen (omega arith) c.cipher_function-left.ensures
    c.cipher_function-right.ensures
    ∙ c.loop-i.invariant

pub returns : goal.returns
returns c =
    let sixteen : length c.args.keys.now ≡ 16 = search rules in
    rw (c.from.ensures, c.from-2.ensures)
    (output_is c.args.keys.now c.loop-i.i _ c.args.permuted c.loop-i.left c.loop-i.right sixteen (omega arith)
    (permuted_again c.args.permuted) (omega arith) (omega arith) c.loop-i.invariant)
