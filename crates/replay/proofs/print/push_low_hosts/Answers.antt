use Rattle.std.proofs.Common.{◌++◌, List, ℕ, append-nil, sym, ap, ◌∙◌, arith}
use Rattle.replay.specs.inside.Printing.{hosts_to, due_below}
use Rattle.replay.proofs.Hosts.{at_first, host_step}
use Rattle.replay.proofs.print.push_low_hosts.Goals as goal

pub loop-address-init : goal.loop-address-init
loop-address-init c = let script = c.args.report.now.script in
    sym (append-nil c.args.out.now.items)
    ∙ ap (λ (t : List ℕ). c.args.out.now.items ++ t) (sym (at_first (due_below c.args.level.now script) script.roster))

pub loop-address-preserved : goal.loop-address-preserved
loop-address-preserved c = let script = c.args.report.now.script in
    host_step (due_below c.args.level.now script) script.roster c.loop-address.address c.args.out.now.items
    c.loop-address.out.items _ (omega arith) c.loop-address.invariant c.in_ok-push_low_host_at.ensures

pub returns : goal.returns
returns c =
    let script = c.args.report.now.script in
    let written = due_below c.args.level.now script in
    c.loop-address.invariant
    ∙ ap (λ (n : ℕ). c.args.out.now.items ++ hosts_to written script.roster n) (omega arith)
