-- A reader's next row among the rows of all.
use Rattle.std.specs.Prelude.{◌≡◌, ℕ, ◌+◌, ◌<◌, List, [], ◌∷◌, length, drop, MatchOption, slice_get, slice_index_or}
use Rattle.untrusted_store.specs.declared.plan.PlanRow.{PlanRow}
use Rattle.untrusted_store.specs.declared.asked.Asked.{Asked}
use Rattle.untrusted_store.specs.Planned.{actions}

-- at a place stands the first of the reader's rows from there on, or the end where it has none
abbrev pub IsNext : List PlanRow → ℕ → ℕ → Type 0
IsNext rows reader place = MatchOption (slice_get rows place)
    (actions (drop place rows) reader ≡ [])
    (λ row. actions (drop place rows) reader ≡ row.action ∷ actions (drop (place + 1) rows) reader)

-- the reader's plan from its place on is what its questions have left
pub record IsAhead (rows : List PlanRow) (reader : ℕ) (asked : Asked) : Type 0 where
  pub left : actions (drop asked.place rows) reader ≡ drop asked.count (actions rows reader)
  pub next : IsNext rows reader asked.place

abbrev pub nobody : Asked
nobody = record { count = 0; place = 0 }

-- of each of the 256 readers
pub record AreAhead (rows : List PlanRow) (readers : List Asked) : Type 0 where
  pub all : length readers ≡ 256
  pub ahead : (reader : ℕ) → reader < 256
      → IsAhead rows reader (slice_index_or readers reader nobody)
