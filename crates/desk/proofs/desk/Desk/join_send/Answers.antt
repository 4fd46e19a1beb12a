use Rattle.std.proofs.Common.{sym, ◌∙◌, ap}
use Rattle.std.proofs.lemmas.Result.{on_ok_weaker}
use Rattle.desk.specs.Views.{DeskView}
use Rattle.desk.specs.Deeds.{address_in}
use Rattle.desk.proofs.Calls.{send_joins}
use Rattle.desk.proofs.desk.Desk.join_send.Goals as goal

pub returns : goal.returns
returns g c =
    let d : DeskView = record {
      unit = c.self.inside.unit;
      lines = c.self.inside.lines.items;
      wire =
          c.self.inside.wire;
      batch = c.self.inside.batch;
    } in
    on_ok_weaker c.push_send.result
    (λ joined. send_joins g.S.Seal.sealed_text d c.args.self.now c.push_send.new.self c.address_in-address.result
    c.args.to c.args.message.now c.self.view_is
    (c.address_in-address.ensures ∙ ap (λ p. address_in p c.args.to) (sym c.self.invariant)) joined)
    c.push_send.ensures
