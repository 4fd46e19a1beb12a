use Rattle.std.proofs.Common.{◌≡◌, ◌++◌, List, ℕ, ap, ◌∙◌}
use Rattle.std.proofs.lemmas.Result.{on_ok_weaker}
use Rattle.replay.specs.inside.Printing.{hosts_to, due_below}
use Rattle.replay.proofs.Hosts.{text_below_whole}
use Rattle.replay.proofs.print.push_text_below.Goals as goal

pub returns : goal.returns
returns c =
    let script = c.args.report.now.script in
    on_ok_weaker c.push_low_hosts.result (λ (h : c.push_low_hosts.new.out.items ≡ c.args.out.now.items
    ++ hosts_to (due_below c.args.level.now script) script.roster 250). h
    ∙ ap (λ (t : List ℕ). c.args.out.now.items ++ t) (text_below_whole c.args.level.now script))
    c.push_low_hosts.ensures
