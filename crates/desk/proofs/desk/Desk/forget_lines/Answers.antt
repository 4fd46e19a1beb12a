use Rattle.desk.specs.Views.{DeskView}
use Rattle.desk.proofs.Calls.{forgotten}
use Rattle.desk.proofs.desk.Desk.forget_lines.Goals as goal

pub returns-clause-moves : goal.returns-clause-moves
returns-clause-moves g c =
    let d : DeskView = record {
      unit = c.self.inside.unit;
      lines = c.self.inside.lines.items;
      wire =
          c.self.inside.wire;
      batch = c.self.inside.batch;
    } in
    forgotten g.S.Seal.sealed_text d c.args.self.now c.clear.new.self.items c.self.view_is c.clear.ensures.items
    c.requires
