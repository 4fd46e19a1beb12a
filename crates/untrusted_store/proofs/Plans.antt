-- What is left of a plan.
use Rattle.std.proofs.Common.{◌≡◌, ℕ, zero, suc, ◌+◌, ◌≤◌, ◌<◌, List, [], ◌∷◌, length, drop, map, true, false, cond, refl, ap, arith, add-one, length-drop}
use Rattle.std.specs.Prelude.{slice_get, Some, None, filter, ◌==◌}
use Rattle.std.proofs.lemmas.Option.{slice_get_past}
use Rattle.untrusted_store.specs.declared.plan.PlanRow.{PlanRow}
use Rattle.untrusted_store.specs.declared.plan.StoreAction.{StoreAction}
use Rattle.untrusted_store.specs.Planned.{actions}

pub nothing_left : {X : Type 0} (xs : List X) (i : ℕ) → length xs ≤ i → drop i xs ≡ []
nothing_left [] zero past = refl
nothing_left [] (suc i) past = refl
nothing_left (x ∷ xs) zero past = absurd (omega (arith, past))
nothing_left (x ∷ xs) (suc i) past = nothing_left xs i (omega (arith, past))

pub first_left : (xs : List StoreAction) (k : ℕ) (x : StoreAction) (rest : List StoreAction)
    → drop k xs ≡ x ∷ rest → slice_get xs k ≡ Some x
first_left xs zero x rest left = ap (λ ys. slice_get ys 0) left
first_left [] (suc k) x rest left = ap (λ ys. slice_get ys 0) left
first_left (y ∷ xs) (suc k) x rest left = first_left xs k x rest left

behind : (xs : List StoreAction) (k : ℕ) (x : StoreAction) (rest : List StoreAction)
    → drop k xs ≡ x ∷ rest → drop (suc k) xs ≡ rest
behind [] zero x rest left = ap (drop 1) left
behind (y ∷ xs) zero x rest left = ap (drop 1) left
behind [] (suc k) x rest left = ap (drop 1) left
behind (y ∷ xs) (suc k) x rest left = behind xs k x rest left

pub rest_left : (xs : List StoreAction) (k : ℕ) (x : StoreAction) (rest : List StoreAction)
    → drop k xs ≡ x ∷ rest → drop (k + 1) xs ≡ rest
rest_left xs k x rest left = rw add-one (behind xs k x rest left)

pub inside_left : (xs : List StoreAction) (k : ℕ) (x : StoreAction) (rest : List StoreAction)
    → drop k xs ≡ x ∷ rest → k < length xs
inside_left xs k x rest left = omega (arith, length-drop k xs, ap length left)

pub past_left : (xs : List StoreAction) (k : ℕ) → drop k xs ≡ [] → length xs ≤ k
past_left xs k left = omega (arith, length-drop k xs, ap length left)

pub none_left : (xs : List StoreAction) (k : ℕ) → drop k xs ≡ [] → slice_get xs k ≡ None
none_left xs k left = slice_get_past xs k (past_left xs k left)

-- a reader's plan has no more actions than there are rows
pub actions_few : (rows : List PlanRow) (reader : ℕ) → length (actions rows reader) ≤ length rows
actions_few [] reader = omega arith
actions_few (row ∷ rows) reader =
    elim (row.reader.0 == reader) as (λ b. length (map (λ (r : PlanRow). r.action)
    (cond b (row ∷ filter (λ (r : PlanRow). r.reader.0 == reader) rows)
    (filter (λ (r : PlanRow). r.reader.0 == reader) rows))) ≤ length (row ∷ rows)) [
      | true ↦ omega (arith, actions_few rows reader)
      | false ↦ omega (arith, actions_few rows reader)
    ]
