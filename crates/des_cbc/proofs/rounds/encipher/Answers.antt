use Rattle.std.proofs.Common.{map, ap, ◌∙◌}
use Rattle.des_cbc.specs.Cipher.{cipher}
use Rattle.des_cbc.specs.inside.Words.{round_key}
use Rattle.des_cbc.proofs.RoundWalk.{unpermuted_is}
use Rattle.des_cbc.proofs.rounds.encipher.Goals as goal

pub returns : goal.returns
returns c =
    c.inverse_permutation.ensures ∙ c.encipher_permuted.ensures
    ∙ ap (cipher (map round_key c.args.keys.now))
    (unpermuted_is c.args.block c.initial_permutation.result c.initial_permutation.ensures)
