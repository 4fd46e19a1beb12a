use Rattle.std.proofs.Common.{◌≡◌, ◌≤◌, ◌++◌, ◌+◌, length, replicate, subst, sym, ◌∙◌, arith}
use Rattle.std.specs.Prelude.{is_ok}
use Rattle.desk.specs.declared.batch.Waiting.TheVariants.{Frame}
use Rattle.desk.specs.Views.{BatchView}
use Rattle.desk.specs.inside.Merging.{IsBatch}
use Rattle.desk.proofs.Batching.{more_frames, grown, filled}
use Rattle.desk.proofs.batch.Batch.push_frames.Goals as goal

pub invariant_of-self-2 : goal.invariant_of-self-2
invariant_of-self-2 c =
    let b : BatchView = record {
      order = c.self.inside.order.items;
      sends = c.self.inside.sends;
      frames =
          c.self.inside.frames.items;
    } in
    let n = length c.args.frames.now in
    let order : c.resize.new.self.items ≡ b.order ++ replicate n Frame = c.in_ok-resize.ensures.items
    ∙ filled b.order (c.len.result + n) c.self.inside.order.len n c.self.inside.order.ok.0
    (omega (arith, c.len.ensures)) in
    let room : length b.frames + n ≤ 256 =
    subst (λ (v : BatchView). length v.frames + n ≤ 256) (sym c.self.view_is) c.requires in
    subst (λ o. IsBatch (record { order = o; sends = b.sends; frames = c.extend_from_slice.new.self.items }))
    (sym order)
    (more_frames b n c.extend_from_slice.new.self.items c.self.invariant
    (grown (is_ok c.extend_from_slice.result) c.extend_from_slice.new.self.items b.frames c.args.frames.now
    c.extend_from_slice.ensures.items) room)
