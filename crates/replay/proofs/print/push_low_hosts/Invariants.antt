use Rattle.std.proofs.Common.{◌≡◌, ◌++◌, ◌-◌}
use Rattle.replay.specs.inside.Printing.{hosts_to, due_below}
use Rattle.replay.proofs.print.push_low_hosts.Given as goal

abbrev pub invariant-loop-address : goal.invariant-loop-address
invariant-loop-address l = l.out.items ≡ l.fn.out.items
    ++ hosts_to (due_below l.level l.report.script) l.report.script.roster (l.address - 1)
