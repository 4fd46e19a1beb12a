use Rattle.script.specs.Text.{line_of_host}
use Rattle.script.proofs.Writing.{texts_step}
use Rattle.script.proofs.write.write_hosts.Goals as goal

pub loop-i-preserved : goal.loop-i-preserved
loop-i-preserved c =
    texts_step (line_of_host c.args.roster.now) c.args.roster.now.hosts c.loop-i.i
    (record { address = c.host_at-address.result.0; partition = c.host_at-address.result.1 })
    c.host_at-address.ensures
    c.args.text.now.items c.loop-i.text.items c.write_host.new.text.items c.loop-i.invariant
    c.in_ok-write_host.ensures
