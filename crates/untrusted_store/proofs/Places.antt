-- A reader's place among the rows.
use Rattle.std.proofs.Common.{◌≡◌, ℕ, zero, suc, ◌+◌, ◌-◌, ◌^◌, min, ◌≤◌, ◌<◌, List, [], ◌∷◌, length, drop, true, false, refl, sym, ap, ◌∙◌, arith, add-one}
use Rattle.std.specs.Prelude.{slice_get, slice_index_or, Some, None, ◌==◌}
use Rattle.std.proofs.lemmas.Bool.{eq-eqb, ne_eqb}
use Rattle.std.proofs.lemmas.Option.{slice_get-get_or, slice_get_past}
use Rattle.untrusted_store.specs.declared.plan.PlanRow.{PlanRow}
use Rattle.untrusted_store.specs.declared.asked.Asked.{Asked}
use Rattle.untrusted_store.specs.declared.plan.StoreAction.{StoreAction}
use Rattle.untrusted_store.specs.declared.plan.StoreAction.TheVariants.{Honest}
use Rattle.std.specs.Option.{unwrap_or}
use Rattle.untrusted_store.specs.Planned.{actions, action_at}
use Rattle.untrusted_store.specs.inside.Ahead.{IsNext, IsAhead}
use Rattle.untrusted_store.proofs.Plans.{nothing_left, rest_left, inside_left, past_left, first_left, none_left, actions_few}

own_suc : (rows : List PlanRow) (i reader : ℕ) (d : PlanRow) → i < length rows
    → ((slice_index_or rows i d).reader.0 == reader) ≡ true
    → actions (drop i rows) reader ≡ (slice_index_or rows i d).action ∷ actions (drop (suc i) rows) reader
own_suc [] i reader d within test = absurd (omega (arith, within))
own_suc (row ∷ rows) zero reader d within test = rw test refl
own_suc (row ∷ rows) (suc i) reader d within test = own_suc rows i reader d (omega (arith, within)) test

other_suc : (rows : List PlanRow) (i reader : ℕ) (d : PlanRow) → i < length rows
    → ((slice_index_or rows i d).reader.0 == reader) ≡ false
    → actions (drop i rows) reader ≡ actions (drop (suc i) rows) reader
other_suc [] i reader d within test = absurd (omega (arith, within))
other_suc (row ∷ rows) zero reader d within test = rw test refl
other_suc (row ∷ rows) (suc i) reader d within test = other_suc rows i reader d (omega (arith, within)) test

-- a row that is another reader's
pub other_row : (rows : List PlanRow) (i reader : ℕ) (d : PlanRow) → i < length rows
    → ((slice_index_or rows i d).reader.0 ≡ reader → ⊥)
    → actions (drop i rows) reader ≡ actions (drop (i + 1) rows) reader
other_row rows i reader d within other =
    rw add-one (other_suc rows i reader d within (ne_eqb _ reader other))

-- the reader's own row is its next one
pub own_row : (rows : List PlanRow) (i reader : ℕ) (d : PlanRow) → i < length rows
    → (slice_index_or rows i d).reader.0 ≡ reader → IsNext rows reader i
own_row rows i reader d within own =
    let here : slice_get rows i ≡ Some (slice_index_or rows i d) = slice_get-get_or rows i d within in
    rw (here, add-one) (own_suc rows i reader d within (eq-eqb _ reader own))

-- none of the reader's rows stands at the end
pub at_end : (rows : List PlanRow) (i reader : ℕ) → length rows ≤ i → IsNext rows reader i
at_end rows i reader past =
    rw (slice_get_past rows i past) (ap (λ rest. actions rest reader) (nothing_left rows i past))

-- before the end a reader's place takes one action off what is left
pub one_taken : (rows : List PlanRow) (reader place : ℕ) → place < length rows → IsNext rows reader place
    → (x : StoreAction) × (actions (drop place rows) reader ≡ x ∷ actions (drop (place + 1) rows) reader)
one_taken [] reader place within next = absurd (omega (arith, within))
one_taken (row ∷ rows) reader place within next =
    let here = slice_get-get_or (row ∷ rows) place row within in
    let told = rw here at next in
    (_, told)

-- one question more at the end of a plan
pub still_nothing : (rows : List PlanRow) (reader count after : ℕ) → drop count (actions rows reader) ≡ []
    → length rows < 2 ^ 64 → after ≡ min (count + 1) (2 ^ 64 - 1) → drop after (actions rows reader) ≡ []
still_nothing rows reader count after left few more =
    nothing_left (actions rows reader) after
    (omega (arith, past_left (actions rows reader) count left, actions_few rows reader, few, more))

-- and before the end
pub one_less : (rows : List PlanRow) (reader count after : ℕ) (x : StoreAction) (rest : List StoreAction)
    → drop count (actions rows reader) ≡ x ∷ rest → length rows < 2 ^ 64 → after ≡ min (count + 1) (2 ^ 64 - 1)
    → drop after (actions rows reader) ≡ rest
one_less rows reader count after x rest left few more =
    let all = actions rows reader in
    let next : after ≡ count + 1 =
    omega (arith, inside_left all count x rest left, actions_few rows reader, few, more) in
    ap (λ n. drop n all) next ∙ rest_left all count x rest left

-- the action for a reader's next question stands at its place
pub action_there : (rows : List PlanRow) (reader : ℕ) (asked : Asked) (row : PlanRow) → IsAhead rows reader asked
    → slice_get rows asked.place ≡ Some row → row.action ≡ action_at rows reader asked.count
action_there rows reader asked row ahead here =
    let told = rw here at ahead.next in
    sym (ap (λ o. unwrap_or o Honest) (first_left (actions rows reader) asked.count row.action _
    (sym ahead.left ∙ told)))

pub action_past : (rows : List PlanRow) (reader : ℕ) (asked : Asked) → IsAhead rows reader asked
    → slice_get rows asked.place ≡ None → Honest ≡ action_at rows reader asked.count
action_past rows reader asked ahead here =
    let told = rw here at ahead.next in
    sym (ap (λ o. unwrap_or o Honest) (none_left (actions rows reader) asked.count (sym ahead.left ∙ told)))
