use Rattle.std.proofs.Common.{◌∙◌}
use Rattle.script.specs.inside.Readers.{words_meant}
use Rattle.script.proofs.Events.{misplaced}
use Rattle.script.proofs.stage.Stage.take_event.Goals as goal

pub returns-in_default-leave : goal.returns-in_default-leave
returns-in_default-leave c =
    misplaced c.args.self.now (words_meant c.args.words)
    (λ script is. c.in_default-leave.not-Begun script (c.leave.ensures ∙ is)) c.in_default.not-Events
