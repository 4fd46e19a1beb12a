use Rattle.std.proofs.Common.{◌≡◌, ◌++◌, List, ℕ, sym, ap, ◌∙◌, append-nil}
use Rattle.std.specs.Prelude.{Bool, [], if◌then◌else◌}
use Rattle.std.proofs.lemmas.Result.{on_ok_weaker}
use Rattle.levels.specs.Rosters.{host_row}
use Rattle.events.specs.ScriptView.{ScriptView}
use Rattle.machine.specs.Text.{due_to}
use Rattle.replay.specs.inside.Printing.{at_row, due_below}
use Rattle.replay.proofs.Hosts.{low_is_due}
use Rattle.replay.proofs.print.push_low_host_at.Goals as goal

pub returns-then-is_low : goal.returns-then-is_low
returns-then-is_low c =
    let script = c.args.report.now.script in
    let row = host_row script.roster c.args.address in
    let same = c.roster.ensures.roster ∙ ap (λ (s : ScriptView). s.roster) c.script.ensures in
    let due : at_row (due_below c.args.level.now script) row ≡ at_row (due_to script) row =
    low_is_due c.args.level.now script c.roster.result.now c.args.address c.is_low.result same c.is_low.ensures
    ∙ ap (λ (b : Bool). if b then at_row (due_to script) row else []) c.if-is_low.true in
    on_ok_weaker c.push_host_at.result (λ (h : c.push_host_at.new.out.items ≡ c.args.out.now.items
    ++ at_row (due_to script) row). h ∙ ap (λ (t : List ℕ). c.args.out.now.items ++ t) (sym due))
    c.push_host_at.ensures

pub returns : goal.returns
returns c =
    let script = c.args.report.now.script in
    let row = host_row script.roster c.args.address in
    let same = c.roster.ensures.roster ∙ ap (λ (s : ScriptView). s.roster) c.script.ensures in
    let none : at_row (due_below c.args.level.now script) row ≡ [] =
    low_is_due c.args.level.now script c.roster.result.now c.args.address c.is_low.result same c.is_low.ensures
    ∙ ap (λ (b : Bool). if b then at_row (due_to script) row else []) c.if-is_low.false in
    sym (append-nil c.args.out.now.items) ∙ ap (λ (t : List ℕ). c.args.out.now.items ++ t) (sym none)
