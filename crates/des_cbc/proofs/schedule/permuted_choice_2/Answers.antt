use Rattle.std.proofs.Common.{arith}
use Rattle.des_cbc.proofs.KeyWords.{none_chosen, more_chosen, all_chosen}
use Rattle.des_cbc.proofs.schedule.permuted_choice_2.Goals as goal

pub loop-j-init : goal.loop-j-init
loop-j-init c = none_chosen c.args.halves

pub loop-j-preserved : goal.loop-j-preserved
loop-j-preserved c = more_chosen c.args.halves c.loop-j.key c.loop-j.j c.chosen-key.result c.loop-j.invariant
    c.chosen-key.ensures

pub returns : goal.returns
returns c = all_chosen c.args.halves c.loop-j.key c.loop-j.j c.requires (omega arith) c.loop-j.invariant
