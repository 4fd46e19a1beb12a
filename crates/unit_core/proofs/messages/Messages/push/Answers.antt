use Rattle.std.proofs.Common.{◌≡◌, ◌+◌, ◌∷◌, ◌++◌, [], length, sym, ap, ◌∙◌, arith}
use Rattle.unit_core.specs.Views.{GivenMessage}
use Rattle.unit_core.specs.declared.rows.GivenRow.{GivenRow}
use Rattle.unit_core.specs.inside.Messages.{MessagesView, row_at, view_of}
use Rattle.unit_core.proofs.Laying.{read, AreLaid, laid_as_read, laid_more}
use Rattle.unit_core.proofs.messages.Messages.push.Goals as goal

-- the message that is added
abbrev message_of : goal.After-append → GivenMessage
message_of c = record {
  frame = c.args.frame;
  from = c.args.from;
  message = c.args.message;
  body = c.args.body.now;
}

laid : (c : goal.After-append)
    → AreLaid c.push_reserved.new.self.items c.append.new.self.items
    ((view_of c.self.inside).list ++ message_of c ∷ [])
laid c =
    let before = laid_more c.self.inside.rows.items c.self.inside.bodies.items (view_of c.self.inside).list
    (message_of c)
    (record { rows_are = c.self.invariant.rows; bodies_are = c.self.invariant.bodies }) in
    let start : c.len.result ≡ length c.self.inside.bodies.items =
    c.len.ensures in
    record {
      rows_are = c.push_reserved.ensures.items
          ∙ ap (λ n. c.self.inside.rows.items ++ row_at n (message_of c) ∷ []) start ∙ before.rows_are;
      bodies_are = c.append.ensures.items ∙ before.bodies_are;
    }

pub returns-clause-pushed : goal.returns-clause-pushed
returns-clause-pushed c =
    let l = laid c in
    read _ _ _ l.rows_are l.bodies_are
    ∙ ap (λ (v : MessagesView). v.list ++ message_of c ∷ []) c.self.view_is

pub invariant_of-self : goal.invariant_of-self
invariant_of-self c =
    let l = laid_as_read _ _ _ (laid c) in
    record {
      rows = l.rows_are;
      bodies = l.bodies_are;
      rows_room = omega (arith, c.push_reserved.ensures.capacity, c.self.invariant.rows_room);
      bodies_room = c.append.ensures.most ∙ c.self.invariant.bodies_room;
    }
