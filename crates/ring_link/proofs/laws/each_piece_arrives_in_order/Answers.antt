use Rattle.std.proofs.Common.{sym, ◌∙◌}
use Rattle.ring_link.proofs.Arriving.{all_arrive, all_received}
use Rattle.ring_link.proofs.laws.each_piece_arrives_in_order.Goals as goal

pub returns-clause-all : goal.returns-clause-all
returns-clause-all c = λ to_host to_net steps s schedule. all_arrive to_host to_net steps s schedule.leads

pub returns-clause-finished : goal.returns-clause-finished
returns-clause-finished c = λ to_host to_net steps s schedule host net.
    let all = all_arrive to_host to_net steps s schedule.leads in
    (sym (all_received s.to_host host) ∙ all.0, sym (all_received s.to_net net) ∙ all.1)
