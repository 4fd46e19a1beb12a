use Rattle.std.proofs.Common.{◌≡◌, ◌-◌}
use Rattle.machine.specs.Text.{due_to}
use Rattle.replay.specs.inside.Printing.{hosts_to}
use Rattle.replay.proofs.print.text_to.Given as goal

abbrev pub invariant-loop-address : goal.invariant-loop-address
invariant-loop-address l =
    l.out.items ≡ hosts_to (due_to l.report.script) l.report.script.roster (l.address - 1)
