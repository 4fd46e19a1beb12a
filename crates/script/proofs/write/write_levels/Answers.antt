use Rattle.script.specs.Text.{line_of_level}
use Rattle.script.proofs.Writing.{texts_step, row_at}
use Rattle.script.proofs.write.write_levels.Goals as goal

pub loop-i-preserved : goal.loop-i-preserved
loop-i-preserved c =
    let row = row_at c.args.roster.now c.loop-i.i c.name_at-name.result c.level_at.result
    c.name_at-name.ensures c.level_at.ensures in
    texts_step line_of_level c.args.roster.now.levels c.loop-i.i
    (record { name = c.name_at-name.result; level = c.level_at.result }) row
    c.args.text.now.items c.loop-i.text.items c.write_level.new.text.items c.loop-i.invariant
    c.in_ok-write_level.ensures
