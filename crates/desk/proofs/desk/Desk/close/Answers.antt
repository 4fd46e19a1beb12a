use Rattle.std.proofs.Common.{◌∙◌, ap, length}
use Rattle.desk.specs.Views.{DeskView}
use Rattle.desk.specs.Deeds.{DeskState}
use Rattle.desk.specs.Desks.{tally_at}
use Rattle.desk.proofs.Moving.{start_now}
use Rattle.desk.proofs.desk.Desk.close.Goals as goal

pub returns-clause-told : goal.returns-clause-told
returns-clause-told g c = λ st b idle at.
    ap (λ (d : DeskView). d.lines) c.self.view_is
    ∙ at.now.told ∙ ap (λ (s : DeskState). s.lines) (start_now g.S.Seal.sealed_text c.args.self st b at idle)

pub returns-clause-sealed : goal.returns-clause-sealed
returns-clause-sealed g c = λ st b idle at.
    ap (λ (d : DeskView). d.wire) c.self.view_is
    ∙ at.now.wires ∙ ap (λ (s : DeskState). s.wire) (start_now g.S.Seal.sealed_text c.args.self st b at idle)

pub returns-clause-counted : goal.returns-clause-counted
returns-clause-counted g c = λ st b idle at.
    c.close.ensures
    ∙ ap (λ (d : DeskView). d.unit.tally) c.self.view_is
    ∙ at.tally ∙ ap (λ s. tally_at s (length b.made)) (start_now g.S.Seal.sealed_text c.args.self st b at idle)
