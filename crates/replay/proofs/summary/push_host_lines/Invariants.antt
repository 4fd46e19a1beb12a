use Rattle.std.proofs.Common.{◌≡◌, ◌++◌, ◌-◌}
use Rattle.replay.specs.Summary.{line_of_host}
use Rattle.replay.specs.inside.Printing.{hosts_to}
use Rattle.replay.proofs.summary.push_host_lines.Given as goal

abbrev pub invariant-loop-address : goal.invariant-loop-address
invariant-loop-address l = l.out.items ≡ l.fn.out.items
    ++ hosts_to (line_of_host l.report.script) l.report.script.roster (l.address - 1)
