use Rattle.std.proofs.Common.{◌++◌, List, ℕ, append-nil, sym, ap, ◌∙◌, arith}
use Rattle.replay.specs.Summary.{line_of_host}
use Rattle.replay.specs.inside.Printing.{hosts_to}
use Rattle.replay.proofs.Hosts.{at_first, host_step}
use Rattle.replay.proofs.summary.push_host_lines.Goals as goal

pub loop-address-init : goal.loop-address-init
loop-address-init c = let script = c.args.report.now.script in
    sym (append-nil c.args.out.now.items)
    ∙ ap (λ (t : List ℕ). c.args.out.now.items ++ t) (sym (at_first (line_of_host script) script.roster))

pub loop-address-preserved : goal.loop-address-preserved
loop-address-preserved c = let script = c.args.report.now.script in
    host_step (line_of_host script) script.roster c.loop-address.address c.args.out.now.items
    c.loop-address.out.items _ (omega arith) c.loop-address.invariant c.in_ok-push_host_line_at.ensures

pub returns : goal.returns
returns c = let script = c.args.report.now.script in
    c.loop-address.invariant ∙ ap (λ (n : ℕ). c.args.out.now.items ++ hosts_to (line_of_host script) script.roster n)
    (omega arith)
