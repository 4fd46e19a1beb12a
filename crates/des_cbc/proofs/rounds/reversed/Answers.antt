use Rattle.std.proofs.Common.{map, ap, ◌∙◌}
use Rattle.des_cbc.specs.inside.Words.{round_key}
use Rattle.des_cbc.proofs.Blocks.{map-reverse}
use Rattle.des_cbc.proofs.rounds.reversed.Goals as goal

pub returns : goal.returns
returns c = ap (map round_key) c.reverse.ensures.after ∙ map-reverse round_key c.args.keys.now
