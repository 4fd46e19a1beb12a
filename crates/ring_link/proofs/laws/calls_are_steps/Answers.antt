use Rattle.ring_link.specs.Links.{received_at, ring_towards, sent_towards, backlog_towards}
use Rattle.ring_link.proofs.Offering.{offer_is_steps}
use Rattle.ring_link.proofs.Receiving.{poll_is_step}
use Rattle.ring_link.proofs.Settling.{settle_is_step}
use Rattle.ring_link.proofs.laws.calls_are_steps.Goals as goal

pub returns-clause-offer : goal.returns-clause-offer
returns-clause-offer c = offer_is_steps

pub returns-clause-poll : goal.returns-clause-poll
returns-clause-poll c = poll_is_step

pub returns-clause-settle : goal.returns-clause-settle
returns-clause-settle c = λ side old new x next order sent received backlog.
    rw (sent, received, backlog)
    (settle_is_step (received_at side old) (ring_towards side old) (sent_towards side old) (backlog_towards side old)
    x next order)
