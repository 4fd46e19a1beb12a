-- A chain, as it is kept.
use Rattle.std.specs.Prelude.{◌≡◌, ℕ, List, length, map, ◌==◌, Option, Some, None, if◌then◌else◌}
use Rattle.frame_pool.specs.Pools.{held_count}
use Rattle.frame_pool.specs.declared.chain.Chain.TheInside.{Inside}

-- the slot that a number stands for: 65,535 stands for none
abbrev pub slot_of : ℕ → Option ℕ
slot_of slot = if slot == 65535 then None else Some slot

abbrev pub places_of : Inside → List (Option ℕ)
places_of a = map slot_of a.slots

-- the held places are counted
pub record IsCounted (a : Inside) : Type 0 where
  pub places : length a.slots ≡ 256
  pub held : a.held ≡ held_count (places_of a)
