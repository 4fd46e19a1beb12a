use Rattle.std.proofs.Common.{sym, subst, arith}
use Rattle.std.specs.Prelude.{Err}
use Rattle.std.proofs.lemmas.Result.{err_from_is_err_and}
use Rattle.script.specs.declared.refusal.ScriptRefused.{ScriptRefused}
use Rattle.replay.specs.declared.twins.Twins.{Twins}
use Rattle.replay.specs.inside.Reading.{ReadsTwins}
use Rattle.replay.proofs.TwoTexts.{second_shorter, stop_has_line, first_stops, second_stops, both_read}
use Rattle.replay.proofs.twins.read_twins.Goals as goal

pub returns-in_err-first-clause-reads : goal.returns-in_err-first-clause-reads
returns-in_err-first-clause-reads c =
    let parts = c.cut.result in
    let p = err_from_is_err_and c.from_residual.result c.from_residual.ensures.1 in
    rw (p.1, p.2) (first_stops c.args.input.now parts.0.now parts.1.now _ c.requires c.cut.ensures
    c.in_err-first.ensures.exact)

pub stop_below-requires-clause-line : goal.stop_below-requires-clause-line
stop_below-requires-clause-line c =
    let parts = c.cut.result in
    stop_has_line parts.1.now c.in-Err.stop
    (omega (arith, second_shorter c.args.input.now parts.0.now parts.1.now c.cut.ensures))
    c.in-Err.ensures.exact

pub returns-in-Ok-clause-reads : goal.returns-in-Ok-clause-reads
returns-in-Ok-clause-reads c =
    let parts = c.cut.result in
    let read : Twins =
    record { first = c.in_ok-first.first; second = c.in-Ok.second; above = c.line_count-above.result } in
    both_read c.args.input.now parts.0.now parts.1.now read c.requires c.cut.ensures c.in_ok-first.ensures.exact
    c.in-Ok.ensures.exact c.line_count-above.ensures.count

pub returns-in-Err-clause-reads : goal.returns-in-Err-clause-reads
returns-in-Err-clause-reads c =
    let parts = c.cut.result in
    subst (λ (w : ScriptRefused). ReadsTwins c.args.input.now (Err w)) (sym c.stop_below.ensures)
    (second_stops c.args.input.now parts.0.now parts.1.now c.in_ok-first.first c.line_count-above.result c.in-Err.stop
    c.requires c.cut.ensures c.in_ok-first.ensures.exact c.line_count-above.ensures.count c.in-Err.ensures.exact)
