use Rattle.std.proofs.Common.{subst}
use Rattle.engine.specs.inside.Judging.{OpensAs}
use Rattle.engine.proofs.FalseFrames.{malformed_is_false}
use Rattle.engine.proofs.MadeBytes.{opens_shut, shut_judged}
use Rattle.engine.proofs.network.Network.judge.Goals as goal

pub returns-in-Foreign-clause-judged : goal.returns-in-Foreign-clause-judged
returns-in-Foreign-clause-judged g c = λ m past setup fits known ready.
    shut_judged m past c.args.at c.args.bytes.now (opens_shut m c.args.at c.args.bytes.now c.opening.result
    c.in-Foreign.is (c.opening.ensures m setup known))

pub returns-in-Malformed-clause-judged : goal.returns-in-Malformed-clause-judged
returns-in-Malformed-clause-judged g c = λ m past setup fits known ready.
    let opens = subst (OpensAs m c.args.at c.args.bytes.now) c.in-Malformed.is
    (c.opening.ensures m setup known) in
    malformed_is_false c.machine_laws.ensures m past c.args.at c.args.bytes.now fits opens.0 opens.1
