use Rattle.std.proofs.Common.{subst}
use Rattle.events.specs.ScriptView.{ScriptView}
use Rattle.script.specs.Lines as line
use Rattle.script.specs.inside.Readers.{action_meant}
use Rattle.script.specs.inside.Stages.{TakesBehind}
use Rattle.script.proofs.stage.start_plan.Goals as goal

pub returns : goal.returns
returns c =
    subst (λ (v : ScriptView). TakesBehind v.roster v.rows v.events
    (line.Store c.args.reader (action_meant c.args.words)) c.add_row.result)
    c.start.ensures c.add_row.ensures
