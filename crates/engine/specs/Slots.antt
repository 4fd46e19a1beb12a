-- Where the desk of a party stands.
use Rattle.std.specs.Prelude.{ℕ, ◌+◌, ◌-◌, ◌<◌, nat_lt, if◌then◌else◌}
use Rattle.levels.specs.declared.level.Party.{Party}
use Rattle.levels.specs.declared.level.Party.TheVariants.{Host, Manager}

-- a host's at its address, and behind them a manager unit's at its partition
abbrev pub slot_of : Party → ℕ
slot_of (Host a) = a
slot_of (Manager p) = 256 + p.0

-- there is room for 256 addresses and as many partitions
abbrev pub HasSlot : Party → Type 0
HasSlot (Host a) = a < 256
HasSlot (Manager p) = p.0 < 256

-- the party of a slot
abbrev pub party_at_slot : ℕ → Party
party_at_slot k = if nat_lt k 256 then Host k else Manager (record { 0 = k - 256 })
