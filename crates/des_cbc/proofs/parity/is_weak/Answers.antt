use Rattle.std.proofs.Common.{◌≡◌, ℕ, suc, zero, ◌<◌, Bool, true, false, List, [], ◌∷◌, length, get_or, MatchBool, refl, sym, subst, arith, rules, tests}
use Rattle.std.specs.List.{Any, HoldsAt, AllWithin}
use Rattle.std.proofs.lemmas.Bool.{false≢true}
use Rattle.std.proofs.lemmas.Iterator.{cases_from_any, YieldsList-from_slice}
use Rattle.des_cbc.specs.Parity.{SameKey, weak_keys}
use Rattle.des_cbc.proofs.parity.is_weak.Goals as goal

read_again : (xs : List (List ℕ)) (k : ℕ) (d e : List ℕ) → k < length xs → get_or xs k e ≡ get_or xs k d
read_again [] k d e h = absurd (omega arith)
read_again (x ∷ xs) zero d e h = refl
read_again (x ∷ xs) (suc k) d e h = read_again xs k d e (omega arith)

some_or_none : (P : List ℕ → Type 0) (xs : List (List ℕ)) (r : Bool)
    → MatchBool r ((k : ℕ) × (k < length xs) × HoldsAt P xs k) (AllWithin (λ x. P x → ⊥) xs 0 (length xs))
    → (r ≡ true → Any P xs) × (Any P xs → r ≡ true)
some_or_none P xs true h = (
  λ _. (h.0, get_or xs h.0 [], h.1, read_again xs h.0 [] (get_or xs h.0 []) h.1, h.2 []),
  λ _. refl,
)
some_or_none P xs false h = (
  λ e. absurd (false≢true e),
  λ w. absurd (h w.0 w.1 (omega arith) w.2 (subst P (sym w.3) w.4)),
)

pub returns : goal.returns
returns c =
    let key = c.args.key.now in
    some_or_none (SameKey key) weak_keys c.any.result
    (cases_from_any _ _ _ (SameKey key) (λ w. SameKey key w → ⊥) c.any.ensures.ran
    (YieldsList-from_slice weak_keys c.iter.ensures.rest) (λ x q k. search (rules, tests))
    (λ x q k. search (rules, tests)))
