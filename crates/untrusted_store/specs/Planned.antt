-- How a store answers by a plan.
use Rattle.std.specs.Prelude.{ℕ, ◌%◌, List, length, map, filter, ◌==◌, bit_xor, Option, None, slice_get, slice_set, slice_index}
use Rattle.std.specs.Option.{option_map, unwrap_or}
use Rattle.std.specs.Map.{lookup}
use Rattle.std.specs.BTreeMap.{is_at}
use Rattle.std.specs.Ordering.{nat_cmp, ordering_then}
use Rattle.std.specs.declared.cmp.Ordering.{Ordering}
use Rattle.untrusted_store.specs.declared.slot.Slot.{Slot}
use Rattle.untrusted_store.specs.declared.plan.StoreAction.{StoreAction}
use Rattle.untrusted_store.specs.declared.plan.StoreAction.TheVariants.{Honest, Of, Flip, Gone}
use Rattle.untrusted_store.specs.declared.plan.PlanRow.{PlanRow}

-- by level, and then by version
abbrev pub slot_cmp : Slot → Slot → Ordering
slot_cmp a b = ordering_then (nat_cmp a.level b.level) (nat_cmp a.version b.version)

-- the plan, the slots with the bytes put last in each, and the number of questions of each reader
pub record PlannedView : Type 0 where
  pub rows : List PlanRow
  pub records : List (Slot × List ℕ)
  pub asked : List ℕ

abbrev pub last_in : PlannedView → Slot → Option (List ℕ)
last_in store slot = lookup (is_at (slot_cmp slot)) store.records

abbrev pub asked_by : PlannedView → ℕ → ℕ
asked_by store reader = slice_index store.asked reader

-- the plan of one reader
abbrev pub actions : List PlanRow → ℕ → List StoreAction
actions rows reader = map (λ row. row.action) (filter (λ row. row.reader.0 == reader) rows)

-- the action for a reader's question, by the number of questions before it
abbrev pub action_at : List PlanRow → ℕ → ℕ → StoreAction
action_at rows reader before = unwrap_or (slice_get (actions rows reader) before) Honest

-- bytes of which one is changed by exclusive or, at the offset modulo their number
abbrev pub flipped : ℕ → ℕ → List ℕ → List ℕ
flipped offset xor bytes =
    let place = offset % length bytes in
    slice_set bytes place (bit_xor (slice_index bytes place) xor)

-- what an action answers for a slot, by the bytes put last in each
abbrev pub answer_by : (Slot → Option (List ℕ)) → Slot → StoreAction → Option (List ℕ)
answer_by last slot Honest = last slot
answer_by last slot (Of level version) = last (record { level = level; version = version })
answer_by last slot (Flip offset xor) = option_map (flipped offset xor) (last slot)
answer_by last slot Gone = None

-- the answer to a reader's next question
abbrev pub next_answer : PlannedView → Slot → ℕ → Option (List ℕ)
next_answer store slot reader =
    answer_by (last_in store) slot (action_at store.rows reader (asked_by store reader))
