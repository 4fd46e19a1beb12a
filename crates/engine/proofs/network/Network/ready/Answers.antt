use Rattle.std.proofs.Common.{rules}
use Rattle.engine.proofs.Joining.{host_is_ready, manager_is_ready}
use Rattle.engine.proofs.Results.{on_ok_two}
use Rattle.engine.proofs.network.Network.ready.Goals as goal

pub returns-in-Host-clause-ready : goal.returns-in-Host-clause-ready
returns-in-Host-clause-ready g c =
    on_ok_two c.flush_sends.result
    (λ here silent. host_is_ready g.S.Seal.sealed_text c.args.from c.in-Host.address c.from.result
    c.args.self.now.desks c.flush_sends.new.self c.in-Host.is c.from.ensures (search rules) here silent
    c.flush_sends.ensures.others)
    c.flush_sends.ensures.here c.flush_sends.ensures.silent

pub returns-in-Manager-clause-ready : goal.returns-in-Manager-clause-ready
returns-in-Manager-clause-ready g c = λ m past sealed stands.
    manager_is_ready c.args.from c.in-Manager.field-0 c.args.self.now.desks c.in-Manager.is (search rules)
    m past stands
