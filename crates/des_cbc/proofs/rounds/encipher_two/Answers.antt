use Rattle.std.proofs.Common.{◌≡◌, ◌∙◌, arith, rules, length}
use Rattle.des_cbc.proofs.RoundWalk.{forward, output_is}
use Rattle.des_cbc.proofs.rounds.encipher_two.Goals as goal

pub loop-i-preserved : goal.loop-i-preserved
loop-i-preserved c =
    let sixteen : length c.args.first_keys.now ≡ 16 = search rules in
    let others : length c.args.second_keys.now ≡ 16 = search rules in
    record {
      first =
          forward c.args.first_keys.now c.loop-i.i c.loop-i.left c.loop-i.right c.cipher_function-left.result
          c.cipher_function-right.result sixteen (omega arith) c.cipher_function-left.ensures
          c.cipher_function-right.ensures
          ∙ c.loop-i.invariant.first;
      second =
          forward c.args.second_keys.now c.loop-i.i c.loop-i.other_left c.loop-i.other_right
          c.cipher_function-other_left.result c.cipher_function-other_right.result others (omega arith)
          c.cipher_function-other_left.ensures c.cipher_function-other_right.ensures
          ∙ c.loop-i.invariant.second;
    }

pub returns-clause-first : goal.returns-clause-first
returns-clause-first c =
    let sixteen : length c.args.first_keys.now ≡ 16 = search rules in
    let joined = rw (c.from.ensures, c.from-2.ensures) at c.inverse_permutation-output.ensures in
    joined
    ∙ output_is c.args.first_keys.now c.loop-i.i _ c.initial_permutation-permuted.result c.loop-i.left c.loop-i.right
    sixteen (omega arith)
    c.initial_permutation-permuted.ensures (omega arith) (omega arith) c.loop-i.invariant.first

pub returns-clause-second : goal.returns-clause-second
returns-clause-second c =
    let others : length c.args.second_keys.now ≡ 16 = search rules in
    let joined = rw (c.from-3.ensures, c.from-4.ensures) at c.inverse_permutation-other_output.ensures in
    joined
    ∙ output_is c.args.second_keys.now c.loop-i.i _ c.initial_permutation-other.result c.loop-i.other_left
    c.loop-i.other_right others (omega arith)
    c.initial_permutation-other.ensures (omega arith) (omega arith) c.loop-i.invariant.second
