-- The numbers of questions of all readers.
use Rattle.std.proofs.Common.{◌≡◌, ℕ, ◌<◌, List, length, map, set, get_or, refl, sym, ap, ◌∙◌, inl, inr, arith}
use Rattle.std.specs.Prelude.{slice_index}
use Rattle.std.proofs.lemmas.Bool.{cases_eq, eq-eqb, ne_eqb}
use Rattle.std.proofs.lemmas.List.{map-set, get_or-set_same, get_or-set_other, length-map, get_or_read}
use Rattle.std.proofs.Math.ListN.{get_or-map}
use Rattle.untrusted_store.specs.declared.plan.PlanRow.{PlanRow}
use Rattle.untrusted_store.specs.declared.asked.Asked.{Asked}
use Rattle.untrusted_store.specs.Telling.{one_more, with_question}
use Rattle.untrusted_store.specs.inside.Ahead.{IsAhead, AreAhead, nobody}

abbrev pub counts : List Asked → List ℕ
counts readers = map (λ (a : Asked). a.count) readers

pub count_at : (readers : List Asked) (reader : ℕ)
    → slice_index (counts readers) reader ≡ (get_or readers reader nobody).count
count_at readers reader = get_or-map (λ (a : Asked). a.count) readers reader nobody

asked_one_more : (readers : List Asked) (own : ℕ) (new : Asked) → own < length readers
    → new.count ≡ one_more (slice_index (counts readers) own)
    → (other : ℕ) → slice_index (counts (set readers own new)) other
    ≡ with_question own (slice_index (counts readers)) other
asked_one_more readers own new room more other =
    let changed : counts (set readers own new) ≡ set (counts readers) own new.count =
    map-set (λ (a : Asked). a.count) readers own new in
    let within : own < length (counts readers) = rw length-map room in
    ap (λ (ns : List ℕ). slice_index ns other) changed
    ∙ elim (cases_eq other own) [
      | inl same ↦
          rw (same, eq-eqb own own refl)
          (get_or-set_same (counts readers) own new.count 0 within ∙ more)
      | inr differs ↦
          rw (ne_eqb own other (λ e. differs (sym e)))
          (get_or-set_other (counts readers) own other new.count 0 differs)
    ]

-- one question more of one reader
pub counts-set : (readers : List Asked) (own : ℕ) (new : Asked) → own < length readers
    → new.count ≡ one_more (slice_index (counts readers) own)
    → ◌≡◌ {A = ℕ → ℕ} (slice_index (counts (set readers own new))) (with_question own (slice_index (counts readers)))
counts-set readers own new room more = λ i other. asked_one_more readers own new room more other i

-- the state that was read of a reader
pub own_state : (rows : List PlanRow) (readers : List Asked) (reader : ℕ) (asked : Asked) → AreAhead rows readers
    → reader < 256 → asked ≡ get_or readers reader asked
    → (asked.count ≡ slice_index (counts readers) reader) × IsAhead rows reader asked
own_state rows readers reader asked are small read =
    let state : asked ≡ get_or readers reader nobody =
    get_or_read readers reader asked (omega (arith, are.all, small)) read nobody in
    (ap (λ (a : Asked). a.count) state ∙ sym (count_at readers reader), rw state (are.ahead reader small))
