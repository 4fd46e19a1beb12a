-- What the store's action says of what the manager got.
use Rattle.std.specs.Prelude.{Bool, true, false, not, ◌==◌, ◌&&◌, Option, None, Some}
use Rattle.untrusted_store.specs.declared.slot.Slot.{Slot}
use Rattle.untrusted_store.specs.declared.plan.StoreAction.{StoreAction}
use Rattle.untrusted_store.specs.declared.plan.StoreAction.TheVariants.{Honest, Of, Flip, Gone}
use Rattle.file_manager.specs.declared.outcome.Got.{Got}

-- whether the answer to a question for a slot is the record that was put there, by its action
abbrev pub is_intact_in : StoreAction → Slot → Bool
is_intact_in Honest slot = true
is_intact_in (Of level version) slot = level == slot.level && version == slot.version
is_intact_in (Flip offset xor) slot = false
is_intact_in Gone slot = false

-- whether the answer opened and isn't that record
abbrev pub is_false_record : StoreAction → Option Got → Bool
is_false_record action None = false
is_false_record action (Some got) = got.current && not (is_intact_in action got.slot)
