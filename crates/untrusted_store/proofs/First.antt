-- The states of readers that have not asked, found from the last row to the first.
use Rattle.std.proofs.Common.{◌≡◌, ℕ, ◌+◌, ◌≤◌, ◌<◌, List, length, drop, map, set, get_or, replicate, sym, ap, subst, ◌∙◌, inl, inr, arith, length-set}
use Rattle.std.proofs.lemmas.Bool.{cases_eq}
use Rattle.std.proofs.lemmas.List.{get_or-set_same, get_or-set_other, get_or-replicate}
use Rattle.std.proofs.Math.Seq.{map-set_same}
use Rattle.std.proofs.Math.ListN.{get_or-map}
use Rattle.untrusted_store.specs.declared.plan.PlanRow.{PlanRow}
use Rattle.untrusted_store.specs.declared.asked.Asked.{Asked}
use Rattle.untrusted_store.specs.Planned.{actions}
use Rattle.untrusted_store.specs.inside.Ahead.{IsNext, AreAhead, nobody}
use Rattle.untrusted_store.proofs.Places.{own_row, other_row, at_end}

abbrev pub state_at : List Asked → ℕ → Asked
state_at readers reader = get_or readers reader nobody

abbrev pub unasked : ℕ → Asked
unasked place = record { count = 0; place = place }

-- each reader's place is that of its first row from a place on
pub record AreFirst (rows : List PlanRow) (start : ℕ) (readers : List Asked) : Type 0 where
  pub all : length readers ≡ 256
  pub counts : map (λ (a : Asked). a.count) readers ≡ replicate 256 0
  pub left : (reader : ℕ) → reader < 256
      → actions (drop (state_at readers reader).place rows) reader ≡ actions (drop start rows) reader
  pub next : (reader : ℕ) → reader < 256 → IsNext rows reader (state_at readers reader).place

pub first_none : (rows : List PlanRow) (readers : List Asked) → readers ≡ replicate 256 (unasked (length rows))
    → AreFirst rows (length rows) readers
first_none rows readers is =
    let state : (reader : ℕ) → reader < 256 → state_at readers reader ≡ unasked (length rows) =
    λ reader few. ap (λ r. state_at r reader) is ∙ get_or-replicate 256 reader (unasked (length rows)) nobody few in
    record {
      all = ap length is;
      counts = ap (map (λ (a : Asked). a.count)) is;
      left = λ reader few. ap (λ (a : Asked). actions (drop a.place rows) reader) (state reader few);
      next = λ reader few.
          rw (state reader few) (at_end rows (length rows) reader (omega arith));
    }

pub count_none : (readers : List Asked) (reader : ℕ) → map (λ (a : Asked). a.count) readers ≡ replicate 256 0
    → reader < 256
    → (state_at readers reader).count ≡ 0
count_none readers reader counts few =
    sym (get_or-map (λ (a : Asked). a.count) readers reader nobody)
    ∙ ap (λ (ns : List ℕ). get_or ns reader 0) counts ∙ get_or-replicate 256 reader 0 0 few

now_own : (readers : List Asked) (own reader at : ℕ) → reader ≡ own → own < length readers
    → state_at (set readers own (unasked at)) reader ≡ unasked at
now_own readers own reader at same room = rw same (get_or-set_same readers own (unasked at) nobody room)

pub first_more : (rows : List PlanRow) (start at own : ℕ) (readers : List Asked) (d : PlanRow)
    → start ≡ at + 1 → start ≤ length rows → (get_or rows at d).reader.0 ≡ own → own < 256
    → AreFirst rows start readers → AreFirst rows at (set readers own (unasked at))
first_more rows start at own readers d more within is few first =
    let inside : at < length rows = omega (arith, more, within) in
    let room : own < length readers = omega (arith, first.all, few) in
    record {
      all = length-set readers own (unasked at) ∙ first.all;
      counts =
          map-set_same (λ (a : Asked). a.count) readers own (unasked at) nobody
          (sym (count_none readers own first.counts few))
          ∙ first.counts;
      left = λ reader small. elim (cases_eq reader own) [
        | inl same ↦ ap (λ (a : Asked). actions (drop a.place rows) reader) (now_own readers own reader at same room)
        | inr other ↦
            ap (λ (a : Asked). actions (drop a.place rows) reader)
            (get_or-set_other readers own reader (unasked at) nobody other)
            ∙ first.left reader small ∙ ap (λ n. actions (drop n rows) reader) more
            ∙ sym (other_row rows at reader d inside (λ e. other (sym e ∙ is)))
      ];
      next = λ reader small. elim (cases_eq reader own) [
        | inl same ↦
            subst (λ (a : Asked). IsNext rows reader a.place) (sym (now_own readers own reader at same room))
            (own_row rows at reader d inside (is ∙ sym same))
        | inr other ↦
            subst (λ (a : Asked). IsNext rows reader a.place)
            (sym (get_or-set_other readers own reader (unasked at) nobody other)) (first.next reader small)
      ];
    }

pub first_all : (rows : List PlanRow) (readers : List Asked) → AreFirst rows 0 readers → AreAhead rows readers
first_all rows readers first = record {
  all = first.all;
  ahead = λ reader few. record {
    left = first.left reader few ∙ sym (ap (λ n. drop n (actions rows reader))
        (count_none readers reader first.counts few));
    next = first.next reader few;
  };
}
