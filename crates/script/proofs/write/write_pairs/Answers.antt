use Rattle.std.proofs.Common.{arith}
use Rattle.script.proofs.Writing.{pairs_step, pairs_done}
use Rattle.script.proofs.write.write_pairs.Goals as goal

pub loop-i-preserved : goal.loop-i-preserved
loop-i-preserved c =
    pairs_step c.args.roster.now c.loop-i.i c.name_at-name.result c.keys_at.result c.requires.des
    c.name_at-name.ensures c.keys_at.ensures
    c.args.text.now.items c.loop-i.text.items c.write_key.new.text.items c.loop-i.invariant
    c.in_ok-write_key.ensures

pub returns : goal.returns
returns c =
    pairs_done c.args.roster.now c.loop-i.i c.args.text.now.items c.loop-i.text.items
    (omega (arith, c.loop-i-test.false, c.key_count-i-end.ensures))
    c.loop-i.invariant
