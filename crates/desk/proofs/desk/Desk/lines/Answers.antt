use Rattle.std.proofs.Common.{◌∙◌, ap}
use Rattle.desk.specs.Views.{DeskView}
use Rattle.desk.specs.Deeds.{DeskState}
use Rattle.desk.proofs.Moving.{start_now}
use Rattle.desk.proofs.desk.Desk.lines.Goals as goal

pub returns-clause-told : goal.returns-clause-told
returns-clause-told g c = λ st b idle at.
    c.deref.ensures.value
    ∙ ap (λ (d : DeskView). d.lines) c.self.view_is
    ∙ at.now.told
    ∙ ap (λ (s : DeskState). s.lines) (start_now g.S.Seal.sealed_text c.args.self.now st b at idle)
