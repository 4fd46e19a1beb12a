use Rattle.std.proofs.Common.{ap, ◌∙◌, length}
use Rattle.events.specs.ScriptView.{ScriptView}
use Rattle.replay.specs.Summary.{summary}
use Rattle.replay.proofs.Totals.{summary_parts}
use Rattle.replay.proofs.summary.summary.Goals as goal

pub returns : goal.returns
returns c =
    let report = c.args.report.now in
    summary_parts c.args.seed c.args.count (length c.events-events.result.now) (length c.frames-frames.result.now)
    report.script c.as_slice.result.now c.as_slice-2.result.now c.new-out.result.items c.push_numbers.new.out.items
    c.push_total.new.out.items c.push_total-2.new.out.items _ c.new-out.ensures.items c.in_ok-push_numbers.ensures
    c.in_ok-push_total.ensures c.as_slice.ensures (cc) c.in_ok-push_total-2.ensures c.as_slice-2.ensures (cc)
    c.in_ok-push_host_lines.ensures
    ∙ ap (λ (s : ScriptView). summary c.args.seed c.args.count s) c.requires.own
