use Rattle.std.proofs.Common.{ap, ◌∙◌}
use Rattle.engine.proofs.Sealings.{seals_clear, seals_des}
use Rattle.engine.proofs.engine.Engine.run.Goals as goal

pub run_sealed-requires-after_bounds : goal.run_sealed-requires-after_bounds
run_sealed-requires-after_bounds g c κs within =
    seals_clear c.self.inside.script.roster.sealing
    (c.in-Clear.ensures ∙ ap (λ roster. roster.sealing) c.roster.ensures.roster)

pub run_sealed-requires-in-Des-after_bounds : goal.run_sealed-requires-in-Des-after_bounds
run_sealed-requires-in-Des-after_bounds g c κs within =
    seals_des c.self.inside.script.roster.sealing
    (c.in-Des.ensures ∙ ap (λ roster. roster.sealing) c.roster.ensures.roster)
