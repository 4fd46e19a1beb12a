use Rattle.std.proofs.Common.{◌≡◌, ◌<◌, ◌++◌, ◌∷◌, [], length, subst, sym, ◌∙◌, ap}
use Rattle.desk.specs.declared.batch.Waiting.TheVariants.{Send}
use Rattle.desk.specs.Views.{BatchView}
use Rattle.desk.specs.inside.Merging.{IsBatch, batch_send}
use Rattle.desk.proofs.Batching.{one_send}
use Rattle.desk.proofs.batch.Batch.push_send.Goals as goal

pub invariant_of-self-2 : goal.invariant_of-self-2
invariant_of-self-2 c =
    let b : BatchView = record {
      order = c.self.inside.order.items;
      sends = c.self.inside.sends;
      frames =
          c.self.inside.frames.items;
    } in
    let m = c.args.message.now in
    let room : length b.sends < 4 = subst (λ (v : BatchView). length v.sends < 4) (sym c.self.view_is) c.requires in
    let order : c.push_reserved.new.self.items ≡ b.order ++ Send c.args.to (length m) ∷ [] =
    c.push_reserved.ensures.items ∙ ap (λ o. o ++ Send c.args.to (length m) ∷ []) c.in_ok-reserve.ensures.items in
    subst (λ sends. IsBatch (record { order = c.push_reserved.new.self.items; sends = sends; frames = b.frames }))
    (sym c.in_ok-add.ensures.added)
    (subst (λ o. IsBatch (record (batch_send b c.args.address c.args.to m) { order = o })) (sym order)
    (one_send b c.args.address c.args.to m c.self.invariant room))
