use Rattle.engine.specs.inside.Scripted.{HasRun}
use Rattle.engine.proofs.engine.follow.Given as goal

abbrev pub invariant-loop-number : goal.invariant-loop-number
invariant-loop-number g l =
    HasRun l.script l.number l.network.desks l.network.files l.sent.items
