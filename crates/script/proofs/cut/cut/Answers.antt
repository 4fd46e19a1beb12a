use Rattle.std.proofs.Common.{arith}
use Rattle.script.proofs.Searching.{cut_there, never_cut}
use Rattle.script.proofs.cut.cut.Goals as goal

pub returns-then-place-text-clause-parts : goal.returns-then-place-text-clause-parts
returns-then-place-text-clause-parts c =
    never_cut c.args.mark c.args.text.now c.before-place.result c.before-place.ensures.first c.if-place-text.true

pub returns-clause-parts : goal.returns-clause-parts
returns-clause-parts c =
    cut_there c.args.mark c.args.text.now c.before-place.result c.before-place.ensures.first (omega arith)
