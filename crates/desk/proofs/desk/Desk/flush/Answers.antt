use Rattle.std.proofs.Common.{sym, ◌∙◌}
use Rattle.desk.specs.Views.{DeskView}
use Rattle.desk.proofs.Calls.{turn}
use Rattle.desk.proofs.desk.Desk.flush.Goals as goal

pub returns-clause-moves : goal.returns-clause-moves
returns-clause-moves g c =
    let sealed = g.S.Seal.sealed_text in
    let d : DeskView = record {
      unit = c.self.inside.unit;
      lines = c.self.inside.lines.items;
      wire =
          c.self.inside.wire;
      batch = c.self.inside.batch;
    } in
    let t = c.in_ok-turn_batch.ensures in
    turn sealed d c.args.self.now c.turn_batch.new.unit c.turn_batch.new.lines.items c.turn_batch.new.wire
    c.clear.new.self c.turn_batch.new.out c.self.inside.partition
    (c.frames_hold_one_thing.ensures d.unit.net)
    c.self.view_is c.self.invariant
    (sym c.is_idle.ensures.test ∙ c.if-is_idle.false) t.turned t.lines t.wire c.clear.ensures
