use Rattle.std.proofs.Common.{sym, subst, ap, ◌∙◌}
use Rattle.file_calls.specs.Spelling.{reply_text}
use Rattle.planned_files.specs.FilesView.{FilesView}
use Rattle.planned_files.specs.Standing.{StandsFor}
use Rattle.planned_files.specs.inside.Kept.{is_false_record}
use Rattle.planned_files.proofs.FalseRecords.{ends}
use Rattle.planned_files.proofs.Following.{stands_next}
use Rattle.planned_files.proofs.files.PlannedFiles.answer.Goals as goal

pub returns-then-is_false_record-clause-stands : goal.returns-then-is_false_record-clause-stands
returns-then-is_false_record-clause-stands g c m calls caller sealed stands =
    let old : FilesView = record { manager = c.self.inside.manager; store = c.self.inside.store } in
    let new : FilesView = record { manager = c.call.new.self; store = c.call.new.store } in
    let before : StandsFor m old calls = subst (λ (f : FilesView). StandsFor m f calls) (sym c.self.view_is) stands in
    let e = c.in_ok-outcome.ensures in
    stands_next g.S.Seal.sealed_text m old new calls caller c.args.from.0 c.args.message.now sealed before e.keys
    (e.stands m.roster calls caller before.manager) e.rows (e.last m.roster calls before.manager)
    (e.asked m.roster calls before.manager)

pub returns-then-is_false_record-clause-answer : goal.returns-then-is_false_record-clause-answer
returns-then-is_false_record-clause-answer g c m calls caller sealed stands =
    let old : FilesView = record { manager = c.self.inside.manager; store = c.self.inside.store } in
    let before : StandsFor m old calls = subst (λ (f : FilesView). StandsFor m f calls) (sym c.self.view_is) stands in
    (ends c.records_have_one_content.ensures.one c.questions_ask_for_what_was_written.ensures g.S.Seal.sealed_text m
    old calls (record { caller = caller; level = c.args.from.0; message = c.args.message.now })
    c.in_ok-outcome.outcome c.is_false_record.result c.self.invariant g.met.S.Seal.laws sealed before
    (c.in_ok-outcome.ensures.outcome m.roster calls before.manager)
    (c.is_false_record.ensures
    ∙ ap (λ a. is_false_record a c.in_ok-outcome.outcome.got) c.next_action-action.ensures)).0
    c.if-is_false_record.true

pub returns-clause-stands : goal.returns-clause-stands
returns-clause-stands g c m calls caller sealed stands =
    let old : FilesView = record { manager = c.self.inside.manager; store = c.self.inside.store } in
    let new : FilesView = record { manager = c.call.new.self; store = c.call.new.store } in
    let before : StandsFor m old calls = subst (λ (f : FilesView). StandsFor m f calls) (sym c.self.view_is) stands in
    let e = c.in_ok-outcome.ensures in
    stands_next g.S.Seal.sealed_text m old new calls caller c.args.from.0 c.args.message.now sealed before e.keys
    (e.stands m.roster calls caller before.manager) e.rows (e.last m.roster calls before.manager)
    (e.asked m.roster calls before.manager)

pub returns-clause-answer : goal.returns-clause-answer
returns-clause-answer g c m calls caller sealed stands =
    let old : FilesView = record { manager = c.self.inside.manager; store = c.self.inside.store } in
    let before : StandsFor m old calls = subst (λ (f : FilesView). StandsFor m f calls) (sym c.self.view_is) stands in
    let t =
    (ends c.records_have_one_content.ensures.one c.questions_ask_for_what_was_written.ensures g.S.Seal.sealed_text m
    old calls (record { caller = caller; level = c.args.from.0; message = c.args.message.now })
    c.in_ok-outcome.outcome c.is_false_record.result c.self.invariant g.met.S.Seal.laws sealed before
    (c.in_ok-outcome.ensures.outcome m.roster calls before.manager)
    (c.is_false_record.ensures
    ∙ ap (λ a. is_false_record a c.in_ok-outcome.outcome.got) c.next_action-action.ensures)).1
    c.if-is_false_record.false in
    record { text_is = c.in_ok-text.ensures.text ∙ ap reply_text t.0; never_false = t.1 }
