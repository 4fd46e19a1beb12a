use Rattle.std.proofs.Common.{length}
use Rattle.drill.specs.Drills.{drill}
use Rattle.drill.proofs.NothingFalse.{nothing_false, drill_honest}
use Rattle.drill.proofs.laws.a_drill_has_nothing_false.Goals as goal

pub returns : goal.returns
returns c = λ seed count. nothing_false (drill seed count) (length (drill seed count).events) (drill_honest seed count)
