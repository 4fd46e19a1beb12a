use Rattle.script.specs.inside.Readers.{meant}
use Rattle.script.proofs.Forms.{line_takes}
use Rattle.script.proofs.stage.Stage.step.Goals as goal

pub take-requires-clause-ranges : goal.take-requires-clause-ranges
take-requires-clause-ranges c = (line_takes c.args.text.now (meant c.in_ok-line.line)
    c.in_ok-line.ensures).1
