use Rattle.drill.specs.Drills.{drill}
use Rattle.replay.proofs.Owing.{no_stop}
use Rattle.replay.proofs.owed.drill_owed.Goals as goal

pub unreachable-requires : goal.unreachable-requires
unreachable-requires g c =
    no_stop c.in_ok-script.script (drill c.args.seed c.args.count) c.in-Err-Opened.field-0 c.in-Err-Opened.field-0-0
    c.in_ok-script.ensures (c.a_drill_has_nothing_false.ensures c.args.seed c.args.count)
    c.in-Err-Opened.field-0-is c.in-Err-Opened.ensures
