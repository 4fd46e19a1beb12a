-- Where the hosts of a drill stand: two at each of its three levels.
use Rattle.std.specs.Prelude.{ℕ, ◌≤◌, ◌+◌, ◌-◌, ◌/◌, ◌%◌, ◌==◌, if◌then◌else◌}
use Rattle.levels.specs.declared.level.Partition.{Partition}

-- the hosts have the addresses 1 to 6
abbrev pub IsHost : ℕ → Type 0
IsHost host = (1 ≤ host) × (host ≤ 6)

-- hosts 1 and 2 stand at level 0, 3 and 4 at level 1, 5 and 6 at level 2
abbrev pub home_of : ℕ → Partition
home_of host = record { 0 = (host - 1) / 2 }

-- the other host of a host's level
abbrev pub neighbour_of : ℕ → ℕ
neighbour_of host = if host % 2 == 0 then host - 1 else host + 1
