use Rattle.std.proofs.Common.{◌≡◌, ap, ◌∙◌, arith}
use Rattle.des_cbc.specs.Bits.{bits}
use Rattle.des_cbc.specs.inside.Words.{initial_word}
use Rattle.des_cbc.proofs.Permutations.{initial_is}
use Rattle.des_cbc.proofs.rounds.initial_permutation.Goals as goal

pub returns : goal.returns
returns c =
    let e : c.exchange.result ≡ initial_word c.args.block = cc in
    ap (bits 64) e ∙ initial_is c.args.block (omega arith)
