use Rattle.std.proofs.Common.{sym, ap, ◌∙◌}
use Rattle.events.specs.ScriptView.{ScriptView}
use Rattle.machine.specs.Low.{low}
use Rattle.machine.specs.Machine.{told}
use Rattle.machine.proofs.Levels.{low_of_low}
use Rattle.machine.proofs.laws.one_low_part_tells_the_same.Goals as goal

pub returns : goal.returns
returns c = λ a b level own r same is le.
    ap (λ (x : ScriptView). told x r) (sym (low_of_low a own level le) ∙ ap (low own) same ∙ low_of_low b own level le)
