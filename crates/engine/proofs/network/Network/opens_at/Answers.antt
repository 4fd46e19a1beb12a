use Rattle.engine.proofs.MadeBytes.{opens_shut, opens_to}
use Rattle.engine.proofs.network.Network.opens_at.Goals as goal

pub returns-in-Foreign : goal.returns-in-Foreign
returns-in-Foreign g c = λ m setup known. opens_shut m c.args.at c.args.bytes.now c.opening.result
    c.in-Foreign.is (c.opening.ensures m setup known)

pub returns-in-Malformed : goal.returns-in-Malformed
returns-in-Malformed g c = λ m setup known. opens_to c.machine_laws.ensures m c.args.at
    c.args.bytes.now c.opening.result c.in-Malformed.is (c.opening.ensures m setup known)
