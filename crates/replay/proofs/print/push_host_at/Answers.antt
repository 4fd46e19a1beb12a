use Rattle.std.proofs.Common.{◌≡◌, ◌++◌, List, ℕ, sym, ap, ◌∙◌, arith}
use Rattle.std.proofs.lemmas.Result.{on_ok_weaker}
use Rattle.events.specs.ScriptView.{ScriptView}
use Rattle.machine.specs.Text.{host_text}
use Rattle.replay.proofs.Hosts.{row_of, reported}
use Rattle.replay.proofs.print.push_host_at.Goals as goal

pub returns : goal.returns
returns c =
    let read = c.roster-roster.result.now in
    let same : read ≡ c.args.report.now.script.roster = c.roster-roster.ensures.roster
    ∙ ap (λ (s : ScriptView). s.roster) c.script.ensures in
    let due = reported host_text c.args.report.now read c.args.address c.in-Some.partition c.lines_of.result.now
    c.requires (omega arith) same (sym c.in-Some.ensures.found) c.lines_of.ensures in
    on_ok_weaker c.push_host.result (λ (h : c.push_host.new.out.items ≡ c.args.out.now.items
    ++ host_text read (row_of c.args.address c.in-Some.partition) c.lines_of.result.now). h
    ∙ ap (λ (t : List ℕ). c.args.out.now.items ++ t) due) c.push_host.ensures
