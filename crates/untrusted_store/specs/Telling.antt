-- What a store may tell, and how a call changes it.
use Rattle.std.specs.Prelude.{◌≡◌, ℕ, ◌+◌, ◌-◌, ◌^◌, min, List, Bool, ◌&&◌, ◌==◌, Option, None, Some, if◌then◌else◌}
use Rattle.untrusted_store.specs.declared.slot.Slot.{Slot}

abbrev pub is_same_slot : Slot → Slot → Bool
is_same_slot a b = a.level == b.level && a.version == b.version

-- the bytes put last in each slot, after these were put in one
abbrev pub with_put : Slot → List ℕ → (Slot → Option (List ℕ)) → Slot → Option (List ℕ)
with_put slot bytes last other = if is_same_slot slot other then Some bytes else last other

-- one more, but the greatest number of 64 bits stays
abbrev pub one_more : ℕ → ℕ
one_more count = min (count + 1) (2 ^ 64 - 1)

-- the numbers of questions, after one more of a reader
abbrev pub with_question : ℕ → (ℕ → ℕ) → ℕ → ℕ
with_question reader asked other = if reader == other then one_more (asked other) else asked other

-- the answer is the one that was told, where one was
abbrev pub IsTold : Option (Slot → ℕ → Option (List ℕ)) → Slot → ℕ → Option (List ℕ) → Type 0
IsTold None slot reader answer = Unit {0}
IsTold (Some next) slot reader answer = answer ≡ next slot reader
