use Rattle.std.proofs.Common.{◌∙◌, ap}
use Rattle.desk.specs.Views.{DeskView}
use Rattle.desk.proofs.Moving.{wire_now}
use Rattle.desk.proofs.desk.Desk.wire.Goals as goal

pub returns-clause-sealed : goal.returns-clause-sealed
returns-clause-sealed g c = λ st b none at.
    ap (λ (d : DeskView). d.wire) c.self.view_is ∙ wire_now g.S.Seal.sealed_text c.args.self.now st b at none
