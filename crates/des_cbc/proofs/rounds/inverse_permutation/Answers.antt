use Rattle.std.proofs.Common.{◌≡◌, ap, ◌∙◌, arith}
use Rattle.des_cbc.specs.Bits.{bits}
use Rattle.des_cbc.specs.inside.Words.{final_word}
use Rattle.des_cbc.proofs.Permutations.{final_is}
use Rattle.des_cbc.proofs.rounds.inverse_permutation.Goals as goal

pub returns : goal.returns
returns c =
    let e : c.exchange.result ≡ final_word c.args.block = cc in
    ap (bits 64) e ∙ final_is c.args.block (omega arith)
