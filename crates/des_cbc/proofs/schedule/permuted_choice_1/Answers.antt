use Rattle.std.proofs.Common.{◌≡◌, ℕ, ap, ◌∙◌, arith}
use Rattle.des_cbc.specs.Bits.{bits}
use Rattle.des_cbc.specs.inside.Words.{columns, gathered}
use Rattle.des_cbc.proofs.Permutations.{choice_is}
use Rattle.des_cbc.proofs.schedule.permuted_choice_1.Goals as goal

pub returns-clause-same : goal.returns-clause-same
returns-clause-same c =
    let e : c.exchange-columns.result ≡ columns c.args.key = cc in
    ap (λ (t : ℕ). bits 56 (gathered t)) e ∙ choice_is c.args.key (omega arith)
