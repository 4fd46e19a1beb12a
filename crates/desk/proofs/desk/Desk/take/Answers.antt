use Rattle.std.proofs.lemmas.Result.{on_ok_weaker}
use Rattle.std.proofs.Common.{sym, ◌∙◌}
use Rattle.desk.specs.Views.{DeskView}
use Rattle.desk.proofs.Calls.{frames_join, frames_after}
use Rattle.desk.proofs.Moving.{with_batch}
use Rattle.desk.proofs.desk.Desk.take.Goals as goal

pub returns-clause-hears : goal.returns-clause-hears
returns-clause-hears g c =
    let sealed = g.S.Seal.sealed_text in
    let d : DeskView = record {
      unit = c.self.inside.unit;
      lines = c.self.inside.lines.items;
      wire =
          c.self.inside.wire;
      batch = c.self.inside.batch;
    } in
    on_ok_weaker c.push_frames.result
    (λ joined. frames_after sealed c.args.self.now c.make_room.new.self
    (with_batch d c.push_frames.new.self) c.args.frames.now (sym c.is_empty.ensures ∙ c.if-is_empty.false)
    c.in_ok-make_room.ensures.moves
    (frames_join sealed d c.make_room.new.self c.push_frames.new.self c.args.frames.now c.self.view_is joined))
    c.push_frames.ensures
