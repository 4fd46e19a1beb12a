use Rattle.std.proofs.Common.{◌≡◌, ℕ, List, [], ◌∷◌, true, false, Option, Some, None, refl, sym, ◌∙◌, ap, ap₂, subst}
use Rattle.std.specs.Prelude.{◌&&◌, if◌then◌else◌}
use Rattle.frame.specs.Pieces.{PieceView}
use Rattle.window.specs.WindowView.{Whole}
use Rattle.window.specs.Windows.{is_recent, is_above, IsShort}
use Rattle.window.specs.inside.Quarters.{held}
use Rattle.window.specs.inside.Standing.{later_of, whole_of, answer_of, given_with, waiting_with, is_let_go, IsReady, Stood}
use Rattle.window.proofs.Changes.{short_answer}
use Rattle.window.proofs.Taking.{Noted, Joined, taken_noted, may_is, holds_along, cannot, passed_over, joins, answer_is, settled, ready_after, waits_after}
use Rattle.window.proofs.reception.Reception.take.Goals as goal

free_of : (c : goal.Then-not-may_give) → whole_of c.args.self.now.waiting ≡ None
free_of c = ap whole_of c.requires.free

-- ---- a piece that can give nothing

noted_then : (c : goal.Then-not-may_give) (h : List PieceView) → Stood c.args.self.now c.args.pool.now h
    → Noted c.args.self.now.newest c.args.self.now.given (held c.advance.new.self.heads c.advance.new.pool) h
    c.args.piece.now
noted_then c h stands =
    let now = c.args.self.now in
    taken_noted now.newest now.given c.advance.new.self.newest (whole_of now.waiting) c.message.result
    (held now.heads c.args.pool.now) (held c.advance.new.self.heads c.advance.new.pool) h c.args.piece.now (free_of c)
    c.message.ensures.message c.advance.ensures.newest c.advance.ensures.held stands

latest_then : (c : goal.Then-not-may_give)
    → c.advance.new.self.newest ≡ Some (later_of c.args.self.now.newest c.args.piece.now.message)
latest_then c =
    c.advance.ensures.newest ∙ ap (λ (n : ℕ). Some (later_of c.args.self.now.newest n)) c.message.ensures.message

never : (c : goal.Then-not-may_give)
    → (is_recent (Some (later_of c.args.self.now.newest c.args.piece.now.message)) c.args.piece.now.message
    && is_above c.args.self.now.given c.args.piece.now.message) ≡ false
never c =
    may_is c.advance.new.self.newest (Some (later_of c.args.self.now.newest c.args.piece.now.message))
    c.advance.new.self.given c.args.self.now.given c.message-2.result c.args.piece.now.message false
    (latest_then c) c.advance.ensures.given c.message-2.ensures.message
    (sym c.if-not-may_give.true ∙ c.may_give.ensures)

pub returns-then-not-may_give-clause-stands : goal.returns-then-not-may_give-clause-stands
returns-then-not-may_give-clause-stands c = λ h stands.
    let now = c.args.self.now in
    let places = held c.advance.new.self.heads c.advance.new.pool in
    holds_along c.advance.new.self.newest (Some (later_of now.newest c.args.piece.now.message))
    c.advance.new.self.given now.given (whole_of c.advance.new.self.waiting) None places (c.args.piece.now ∷ h)
    (latest_then c) c.advance.ensures.given (ap whole_of c.advance.ensures.waiting ∙ free_of c)
    (passed_over now.newest now.given places h c.args.piece.now (noted_then c h stands) (never c))

pub returns-then-not-may_give-clause-answer : goal.returns-then-not-may_give-clause-answer
returns-then-not-may_give-clause-answer c = λ h stands.
    let now = c.args.self.now in
    let places = held c.advance.new.self.heads c.advance.new.pool in
    let done = cannot now.newest now.given places h c.args.piece.now (noted_then c h stands) (never c) in
    rw done refl

-- ---- a piece that joins those of its message

free : (c : goal.After-finish) → whole_of c.args.self.now.waiting ≡ None
free c = ap whole_of c.requires.free

latest : (c : goal.After-finish)
    → c.advance.new.self.newest ≡ Some (later_of c.args.self.now.newest c.args.piece.now.message)
latest c =
    c.advance.ensures.newest ∙ ap (λ (n : ℕ). Some (later_of c.args.self.now.newest n)) c.message.ensures.message

joined : (c : goal.After-finish) (h : List PieceView) → Stood c.args.self.now c.args.pool.now h
    → Joined c.args.self.now.newest c.args.self.now.given (held c.join.new.self c.join.new.pool) h c.args.piece.now
joined c h stands =
    let now = c.args.self.now in
    let x = c.args.piece.now in
    let noted = taken_noted now.newest now.given c.advance.new.self.newest (whole_of now.waiting) c.message.result
    (held now.heads c.args.pool.now) (held c.advance.new.self.heads c.advance.new.pool) h x (free c)
    c.message.ensures.message c.advance.ensures.newest c.advance.ensures.held stands in
    let may = may_is c.advance.new.self.newest
    (Some (later_of now.newest x.message)) c.advance.new.self.given now.given
    c.message-2.result x.message true (latest c) c.advance.ensures.given c.message-2.ensures.message
    (sym c.if-not-may_give.false ∙ c.may_give.ensures) in
    joins now.newest now.given (held c.advance.new.self.heads c.advance.new.pool)
    (held c.join.new.self c.join.new.pool) h x
    c.message.ensures.kept.within noted may c.join.ensures.held

answered : (c : goal.After-finish)
    → c.finish.result ≡ answer_of (held c.join.new.self c.join.new.pool c.args.piece.now.message)
answered c =
    c.finish.ensures.answer
    ∙ ap (λ (n : ℕ). answer_of (held c.join.new.self c.join.new.pool n)) c.message-3.ensures.message

held_after : (c : goal.After-finish) (j : ℕ)
    → held c.finish.new.self.heads c.finish.new.pool j
    ≡ (if is_let_go c.args.piece.now.message c.finish.result j then [] else held c.join.new.self c.join.new.pool j)
held_after c j =
    c.finish.ensures.held j
    ∙ ap (λ (n : ℕ). if is_let_go n c.finish.result j then [] else held c.join.new.self c.join.new.pool j)
    c.message-3.ensures.message

waits : (c : goal.After-finish)
    → whole_of c.finish.new.self.waiting ≡ waiting_with None c.args.piece.now.message c.finish.result
waits c =
    c.finish.ensures.waiting
    ∙ ap₂ (λ (w : Option Whole) (n : ℕ). waiting_with w n c.finish.result)
    (ap whole_of c.advance.ensures.waiting ∙ free c) c.message-3.ensures.message

pub returns-clause-keeps : goal.returns-clause-keeps
returns-clause-keeps c = record {
  heads = c.finish.ensures.keeps;
  waiting = subst (λ (w : Option Whole). IsReady w (held c.finish.new.self.heads c.finish.new.pool)) (sym (waits c))
      (ready_after (held c.join.new.self c.join.new.pool) (held c.finish.new.self.heads c.finish.new.pool)
      c.args.piece.now.message c.finish.result (answered c) (held_after c));
}

pub returns-clause-stands : goal.returns-clause-stands
returns-clause-stands c = λ h stands.
    let now = c.args.self.now in
    let x = c.args.piece.now in
    holds_along c.finish.new.self.newest (Some (later_of now.newest x.message)) c.finish.new.self.given
    (given_with now.given x.message c.finish.result) (whole_of c.finish.new.self.waiting)
    (waiting_with None x.message c.finish.result) (held c.finish.new.self.heads c.finish.new.pool) (x ∷ h)
    (c.finish.ensures.newest ∙ latest c)
    (c.finish.ensures.given ∙ ap₂ (λ (g : Option ℕ) (n : ℕ). given_with g n c.finish.result) c.advance.ensures.given
    c.message-3.ensures.message)
    (waits c)
    (settled now.newest now.given (held c.join.new.self c.join.new.pool)
    (held c.finish.new.self.heads c.finish.new.pool) h x c.finish.result (joined c h stands) (answered c)
    (held_after c))

pub returns-clause-answer : goal.returns-clause-answer
returns-clause-answer c = λ h stands.
    answered c
    ∙ answer_is c.args.self.now.newest c.args.self.now.given (held c.join.new.self c.join.new.pool) h c.args.piece.now
    (joined c h stands)

pub returns-clause-waiting : goal.returns-clause-waiting
returns-clause-waiting c = waits c ∙ waits_after c.args.piece.now c.finish.result

pub returns-clause-short : goal.returns-clause-short
returns-clause-short c =
    subst IsShort (sym c.finish.ensures.answer)
    (short_answer c.join.new.self c.join.new.pool c.message-3.result c.join.ensures.keeps)
