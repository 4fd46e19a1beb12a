use Rattle.std.proofs.Common.{◌∙◌, sym, ap}
use Rattle.des_cbc.specs.Bits.{block_bits}
use Rattle.des_cbc.proofs.Blocks.{read_is, eight}
use Rattle.des_cbc.proofs.words.load.Goals as goal

pub returns : goal.returns
returns c = read_is _ _ c.from_be_bytes.ensures ∙ ap block_bits (sym (eight c.args.text.now c.args.at c.requires))
