use Rattle.std.proofs.Common.{◌∙◌}
use Rattle.std.proofs.lemmas.Result.{IfOk-weaker}
use Rattle.replay.proofs.Hosts.{text_whole}
use Rattle.replay.proofs.print.text.Goals as goal

pub returns : goal.returns
returns c = IfOk-weaker c.text_to.result _ _ (λ written h. h ∙ text_whole c.args.report.now.script) c.text_to.ensures
