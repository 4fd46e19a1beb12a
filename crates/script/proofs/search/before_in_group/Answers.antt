use Rattle.std.proofs.Common.{arith}
use Rattle.std.proofs.lemmas.Bool.Decides.{nat_tests}
use Rattle.script.proofs.Searching.{group_is_clear, group_has_mark}
use Rattle.script.proofs.search.before_in_group.Goals as goal

pub returns-then-marks-eq0 : goal.returns-then-marks-eq0
returns-then-marks-eq0 c =
    group_is_clear c.args.text.now c.args.at c.args.mark c.marks_in_group-marks.result c.requires
    c.marks_in_group-marks.ensures (grind (arith, nat_tests))

pub returns-else-marks-eq0 : goal.returns-else-marks-eq0
returns-else-marks-eq0 c =
    group_has_mark c.args.text.now c.args.at c.args.mark c.marks_in_group-marks.result c.requires
    c.marks_in_group-marks.ensures (grind (arith, nat_tests))
