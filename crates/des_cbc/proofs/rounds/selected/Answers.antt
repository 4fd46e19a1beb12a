use Rattle.des_cbc.proofs.SelectionWords.{selected_is}
use Rattle.des_cbc.proofs.rounds.selected.Goals as goal

pub returns : goal.returns
returns c = selected_is c.args.place c.args.input c.requires
