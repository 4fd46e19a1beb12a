use Rattle.std.proofs.Common.{[], sym, ap, ◌∙◌, arith}
use Rattle.machine.specs.Text.{due_to}
use Rattle.replay.specs.inside.Printing.{hosts_to}
use Rattle.replay.proofs.Hosts.{at_first, host_step}
use Rattle.replay.proofs.print.text_to.Goals as goal

pub loop-address-init : goal.loop-address-init
loop-address-init c = let script = c.args.report.now.script in
    c.in_ok-out.ensures.items ∙ sym (at_first (due_to script) script.roster)

pub loop-address-preserved : goal.loop-address-preserved
loop-address-preserved c = let script = c.args.report.now.script in
    host_step (due_to script) script.roster c.loop-address.address [] c.loop-address.out.items _
    (omega arith) c.loop-address.invariant c.in_ok-push_host_at.ensures

pub returns : goal.returns
returns c = let script = c.args.report.now.script in
    c.loop-address.invariant ∙ ap (hosts_to (due_to script) script.roster) (omega arith)
