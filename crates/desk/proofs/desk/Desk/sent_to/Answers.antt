use Rattle.std.proofs.Common.{◌∙◌, ap, ap₂, sym}
use Rattle.desk.specs.Views.{DeskView}
use Rattle.desk.specs.Wires.{WireView, message_frames}
use Rattle.desk.specs.Deeds.{address_in}
use Rattle.desk.proofs.Moving.{wire_now}
use Rattle.desk.proofs.Calls.{partition_at}
use Rattle.desk.proofs.desk.Desk.sent_to.Goals as goal

pub returns : goal.returns
returns g c = λ st b none at.
    c.message.ensures
    ∙ ap (λ (w : WireView). message_frames w c.address_in.result c.args.number)
    (ap (λ (d : DeskView). d.wire) c.self.view_is ∙ wire_now g.S.Seal.sealed_text c.args.self.now st b at none)
    ∙ ap (λ a. message_frames st.wire a c.args.number)
    (c.address_in.ensures ∙ ap (λ p. address_in p c.args.to)
    (sym c.self.invariant ∙ ap (λ (d : DeskView). d.unit.host.partition) c.self.view_is
    ∙ partition_at g.S.Seal.sealed_text c.args.self.now st b at))
