use Rattle.std.proofs.Common.{◌≡◌, ℕ, List, Option, Some, None, ◌∷◌, is_some, vec_capacity, get_or, set, sym, ◌∙◌, ap, subst, arith}
use Rattle.std.proofs.lemmas.List.{length-set}
use Rattle.frame.specs.Pieces.{PieceView}
use Rattle.window.specs.WindowView.{WindowView}
use Rattle.window.specs.Windows.{StandsFor, is_sender, partner_at, waiting, waiting_of}
use Rattle.window.specs.inside.Standing.{Stood}
use Rattle.window.specs.inside.Receptions.{KeptIn, AreApart}
use Rattle.window.specs.declared.reception.Reception.{Reception}
use Rattle.window.proofs.Seen.{Replaces, reception_at, seen_of, kept_after, apart_after, now_view, others_view, stood_before, stands_after}
use Rattle.window.proofs.window.Window.take.Goals as goal

replaced : (c : goal.After-self-1)
    → Replaces c.self.inside.receptions.items c.self.inside.pool c.take.new.pool c.args.from c.in-Some.reception
    c.take.new.self
replaced c = record {
  long = c.self.invariant.long;
  small = c.ranges.from.fits;
  is = reception_at c.self.inside.receptions.items c.args.from c.from.result _ c.in-Some.reception c.from.ensures
      (omega (arith, c.self.invariant.long, c.ranges.from.fits)) (sym c.index_mut.ensures.value ∙ c.in-Some.is);
  turns = c.take.ensures.turns;
  kept = c.self.invariant.kept;
  apart = c.self.invariant.apart;
  keeps = c.take.ensures.keeps;
}

-- the receptions after it
place : (c : goal.After-self-1)
    → set c.self.inside.receptions.items c.from.result (Some c.take.new.self)
    ≡ set c.self.inside.receptions.items c.args.from (Some c.take.new.self)
place c = ap (λ (n : ℕ). set c.self.inside.receptions.items n (Some c.take.new.self)) c.from.ensures

pub invariant_of-self : goal.invariant_of-self
invariant_of-self c = record {
  long = length-set c.self.inside.receptions.items c.from.result (Some c.take.new.self) ∙ c.self.invariant.long;
  kept = λ b. subst (λ (xs : List (Option Reception)). KeptIn c.take.new.pool (get_or xs b None)) (sym (place c))
      (kept_after c.self.inside.receptions.items c.self.inside.pool c.take.new.pool c.args.from c.in-Some.reception
      c.take.new.self (replaced c) b);
  apart = subst AreApart (sym (place c))
      (apart_after c.self.inside.receptions.items c.self.inside.pool c.take.new.pool c.args.from c.in-Some.reception
      c.take.new.self (replaced c));
}

-- what contracts see before it and after it
old : (c : goal.After-self-1)
    → seen_of c.self.inside.receptions.items c.self.inside.pool (vec_capacity c.self.inside.receptions)
    ≡ c.args.self.now
old c = c.self.view_is

abbrev after : goal.After-self-1 → List (Option Reception) → WindowView
after c xs = seen_of xs c.take.new.pool (vec_capacity c.self.inside.receptions)

stood : (c : goal.After-self-1) (h : List PieceView) → StandsFor c.args.self.now c.args.from h
    → Stood c.in-Some.reception c.self.inside.pool h
stood c h stands =
    stood_before c.self.inside.receptions.items c.self.inside.pool c.take.new.pool
    (vec_capacity c.self.inside.receptions)
    c.args.from c.in-Some.reception c.take.new.self h
    (replaced c) (subst (λ (w : WindowView). StandsFor w c.args.from h) (sym (old c)) stands)

pub returns-clause-stands : goal.returns-clause-stands
returns-clause-stands c = λ h stands.
    subst (λ (xs : List (Option Reception)). StandsFor (after c xs) c.args.from (c.args.piece.now ∷ h)) (sym (place c))
    (stands_after c.self.inside.receptions.items c.self.inside.pool c.take.new.pool
    (vec_capacity c.self.inside.receptions)
    c.args.from c.in-Some.reception c.take.new.self
    (c.args.piece.now ∷ h) (replaced c) (c.take.ensures.stands h (stood c h stands)))

pub returns-clause-answer : goal.returns-clause-answer
returns-clause-answer c = λ h stands. c.take.ensures.answer h (stood c h stands)

pub returns-clause-waiting : goal.returns-clause-waiting
returns-clause-waiting c =
    ap (λ (xs : List (Option Reception)). waiting (after c xs) c.args.from) (place c)
    ∙ ap waiting_of (now_view c.self.inside.receptions.items c.self.inside.pool c.take.new.pool
    (vec_capacity c.self.inside.receptions)
    c.args.from c.in-Some.reception c.take.new.self (replaced c))
    ∙ c.take.ensures.waiting

pub returns-clause-partner : goal.returns-clause-partner
returns-clause-partner c =
    ap (λ (xs : List (Option Reception)). is_sender (after c xs) c.args.from) (place c)
    ∙ ap is_some (now_view c.self.inside.receptions.items c.self.inside.pool c.take.new.pool
    (vec_capacity c.self.inside.receptions)
    c.args.from c.in-Some.reception c.take.new.self (replaced c))

pub returns-clause-others : goal.returns-clause-others
returns-clause-others c = λ b ne.
    ap (λ (xs : List (Option Reception)). partner_at (after c xs) b) (place c)
    ∙ others_view c.self.inside.receptions.items c.self.inside.pool c.take.new.pool
    (vec_capacity c.self.inside.receptions)
    c.args.from c.in-Some.reception c.take.new.self (replaced c) b ne
    ∙ ap (λ (w : WindowView). partner_at w b) (old c)
