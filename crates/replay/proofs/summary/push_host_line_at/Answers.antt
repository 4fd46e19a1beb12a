use Rattle.std.proofs.Common.{◌≡◌, ◌++◌, List, ℕ, sym, ap, ◌∙◌, arith}
use Rattle.std.proofs.lemmas.Result.{on_ok_weaker}
use Rattle.events.specs.ScriptView.{ScriptView}
use Rattle.replay.specs.Summary.{host_line}
use Rattle.replay.proofs.Hosts.{row_of, reported}
use Rattle.replay.proofs.summary.push_host_line_at.Goals as goal

pub returns : goal.returns
returns c =
    let read = c.roster-roster.result.now in
    let same : read ≡ c.args.report.now.script.roster = c.roster-roster.ensures.roster
    ∙ ap (λ (s : ScriptView). s.roster) c.script.ensures in
    let due = reported host_line c.args.report.now read c.args.address c.in-Some.partition c.lines_of.result.now
    c.requires (omega arith) same (sym c.in-Some.ensures.found) c.lines_of.ensures in
    on_ok_weaker c.push_host_line.result (λ (h : c.push_host_line.new.out.items ≡ c.args.out.now.items
    ++ host_line read (row_of c.args.address c.in-Some.partition) c.lines_of.result.now). h
    ∙ ap (λ (t : List ℕ). c.args.out.now.items ++ t) due) c.push_host_line.ensures
