use Rattle.std.proofs.Common.{◌++◌, [], ◌∷◌, take, get_or, append_assoc, ap, ◌∙◌}
use Rattle.machine.specs.declared.line.FrameRow.{FrameRow}
use Rattle.engine.specs.inside.Merging.{rows_of}
use Rattle.engine.proofs.Merged.{rows_next}
use Rattle.engine.proofs.merging.push_frames.Goals as goal

pub loop-piece-preserved : goal.loop-piece-preserved
loop-piece-preserved c =
    let i = c.loop-piece.piece in
    let frames = c.args.frames.now in
    let before = c.args.rows.now.items in
    let row : FrameRow = record {
      stream = c.args.stream;
      message = c.args.number;
      piece = i;
      bytes = get_or frames i [];
    } in
    c.in_ok-push.ensures.items
    ∙ ap (λ rows. rows ++ row ∷ []) c.loop-piece.invariant
    ∙ append_assoc before (rows_of c.args.stream c.args.number 0 (take i frames)) (row ∷ [])
    ∙ ap (λ rows. before ++ rows) (rows_next c.args.stream c.args.number i frames c.loop-piece-test.true)
