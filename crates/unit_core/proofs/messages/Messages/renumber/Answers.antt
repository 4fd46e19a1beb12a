use Rattle.std.proofs.Common.{◌≡◌, map, sym, ap, ◌∙◌, arith}
use Rattle.unit_core.specs.inside.Messages.{MessagesView, renumbered, view_of}
use Rattle.unit_core.proofs.Laying.{read, AreLaid, laid_as_read, laid_again}
use Rattle.unit_core.proofs.messages.Messages.renumber.Goals as goal

laid : (c : goal.After-renumber_rows)
    → AreLaid c.renumber_rows.new.rows.items c.self.inside.bodies.items
    (map (renumbered c.args.places.now) (view_of c.self.inside).list)
laid c =
    let l = laid_again c.args.places.now c.self.inside.rows.items c.self.inside.bodies.items
    (view_of c.self.inside).list
    (record { rows_are = c.self.invariant.rows; bodies_are = c.self.invariant.bodies }) in
    record { rows_are = c.renumber_rows.ensures.rows ∙ l.rows_are; bodies_are = l.bodies_are }

pub returns-clause-renumbered : goal.returns-clause-renumbered
returns-clause-renumbered c =
    let l = laid c in
    read _ _ _ l.rows_are l.bodies_are
    ∙ ap (λ (v : MessagesView). map (renumbered c.args.places.now) v.list) c.self.view_is

pub invariant_of-self : goal.invariant_of-self
invariant_of-self c =
    let l = laid_as_read _ _ _ (laid c) in
    record {
      rows = l.rows_are;
      bodies = l.bodies_are;
      rows_room = omega (arith, c.renumber_rows.ensures.memory, c.self.invariant.rows_room);
      bodies_room = c.self.invariant.bodies_room;
    }
