use Rattle.drill.proofs.States.{draws_three, step_drawn, state_drawn}
use Rattle.drill.proofs.draws.Draws.step.Goals as goal

pub returns-clause-step : goal.returns-clause-step
returns-clause-step c = λ seed i from.
    step_drawn seed i _ _ _ (draws_three seed i _ _ _ _ from c.draw-host.ensures.state c.draw-kind.ensures.state
    c.draw-value.ensures.state) _ (cc)

pub returns-clause-state : goal.returns-clause-state
returns-clause-state c = λ seed i from.
    state_drawn seed i _ _ _ (draws_three seed i _ _ _ _ from c.draw-host.ensures.state c.draw-kind.ensures.state
    c.draw-value.ensures.state)
