use Rattle.std.proofs.Common.{◌∷◌, sym, subst, arith}
use Rattle.file_calls.specs.Spelling.{call_of}
use Rattle.machine.specs.Replies.{Sight, question_by, reply_with}
use Rattle.file_manager.specs.Effects.{last_after, asked_after, writing_by, MakesChange}
use Rattle.file_manager.specs.Outcomes.{IsOutcome}
use Rattle.file_manager.specs.Standing.{StandsFor}
use Rattle.file_manager.proofs.Results.{on_ok, if_ok}
use Rattle.file_manager.proofs.Sights.{level_room, same_sight}
use Rattle.file_manager.proofs.Following.{stands_after}
use Rattle.file_manager.proofs.manager.Manager.call.Goals as goal

pub returns-clause-stands : goal.returns-clause-stands
returns-clause-stands g c =
    let now = c.args.self.now in
    let from = c.args.from.0 in
    let message = c.args.message.now in
    on_ok c.call_kept.result
    (λ same roster calls caller stands.
    let room = level_room roster now calls stands in
    subst (λ m. StandsFor roster m (record { caller = caller; level = from; message = message } ∷ calls)) (sym same)
    (stands_after roster now calls caller from message (omega (arith, room, c.requires)) stands))
    c.call_kept.ensures.ok

pub returns-clause-outcome : goal.returns-clause-outcome
returns-clause-outcome g c =
    let now = c.args.self.now in
    let from = c.args.from.0 in
    let call = call_of c.args.message.now in
    if_ok c.call_kept.result _ _
    (λ outcome h roster calls stands.
    subst (λ (s : Sight). IsOutcome g.S.Seal.sealed_text now.keys from (g.T.Store.next c.args.store.now)
    (question_by s call) (λ opened. reply_with s opened call) outcome)
    (same_sight roster now calls from c.requires stands) h)
    c.call_kept.ensures.outcome

pub returns-clause-last : goal.returns-clause-last
returns-clause-last g c roster calls stands =
    let now = c.args.self.now in
    let from = c.args.from.0 in
    let call = call_of c.args.message.now in
    subst (λ (s : Sight). MakesChange c.call_kept.result (g.T.Store.last c.args.store.now)
    (last_after g.S.Seal.sealed_text now.keys from (writing_by s call) (g.T.Store.last c.args.store.now))
    (g.T.Store.last c.call_kept.new.store))
    (same_sight roster now calls from c.requires stands) c.call_kept.ensures.last

pub returns-clause-asked : goal.returns-clause-asked
returns-clause-asked g c roster calls stands =
    let now = c.args.self.now in
    let from = c.args.from.0 in
    let call = call_of c.args.message.now in
    subst (λ (s : Sight). MakesChange c.call_kept.result (g.T.Store.asked c.args.store.now)
    (asked_after from (question_by s call) (g.T.Store.asked c.args.store.now))
    (g.T.Store.asked c.call_kept.new.store))
    (same_sight roster now calls from c.requires stands) c.call_kept.ensures.asked
