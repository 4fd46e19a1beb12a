-- What a roster says: its levels in order, its hosts, and who is a partner of whom.
use Rattle.std.specs.Prelude.{ℕ, List, [], ◌∷◌, ◌++◌, length, map, filter, find, position, Bool, true, false, not, ◌&&◌, ◌||◌, ◌==◌, nat_lt, Option, Some, None, if◌then◌else◌, slice_get}
use Rattle.std.specs.List.{list_any}
use Rattle.std.specs.Option.{option_map}
use Rattle.std.specs.Str.{bytes_eq}
use Rattle.seal_core.specs.declared.KeyPair.{KeyPair}
use Rattle.levels.specs.declared.level.Level.{Level}
use Rattle.levels.specs.declared.level.Partition.{Partition}
use Rattle.levels.specs.declared.level.Party.{Party}
use Rattle.levels.specs.declared.level.Party.TheVariants.{Host, Manager}
use Rattle.levels.specs.declared.level.Sealing.{Sealing}
use Rattle.levels.specs.declared.rows.LevelRow.{LevelRow}
use Rattle.levels.specs.declared.rows.HostRow.{HostRow}

-- a roster as its lines say it; levels are numbered from 0 and hosts stand in script order
pub record RosterView : Type 0 where
  pub sealing : Sealing
  pub levels : List LevelRow
  -- under DES the key pairs that were added, in the order of the levels; none under clear sealing
  pub keys : List KeyPair
  pub guard : Option KeyPair
  pub hosts : List HostRow

abbrev pub is_same_level : Level → Level → Bool
is_same_level x y = x.rank == y.rank && x.cats == y.cats

-- the partition of a level's name
abbrev pub level_named : RosterView → List ℕ → Option Partition
level_named roster name =
    option_map (λ place. record { 0 = place })
    (position (λ row. bytes_eq row.name name) roster.levels)

-- whether a level has the name or the value
abbrev pub is_taken : RosterView → List ℕ → Level → Bool
is_taken roster name level =
    list_any (λ row. bytes_eq row.name name || is_same_level row.level level) roster.levels

-- the row of an address
abbrev pub host_row : RosterView → ℕ → Option HostRow
host_row roster address = find (λ row. row.address == address) roster.hosts

-- the partition of a party, where the roster has the party
abbrev pub partition_of : RosterView → Party → Option Partition
partition_of roster (Host address) = option_map (λ row. row.partition) (host_row roster address)
partition_of roster (Manager partition) =
    if nat_lt partition.0 (length roster.levels) then Some partition else None

abbrev pub level_at : RosterView → Option Partition → Option Level
level_at roster None = None
level_at roster (Some partition) =
    option_map (λ row. row.level) (slice_get roster.levels partition.0)

abbrev pub name_at : RosterView → Partition → Option (List ℕ)
name_at roster partition = option_map (λ row. row.name) (slice_get roster.levels partition.0)

-- a party's level is that of its partition
abbrev pub level_of : RosterView → Party → Option Level
level_of roster party = level_at roster (partition_of roster party)

abbrev pub is_same_party : Party → Party → Bool
is_same_party (Host a) (Host b) = a == b
is_same_party (Manager p) (Manager q) = p.0 == q.0
is_same_party (Host a) (Manager q) = false
is_same_party (Manager p) (Host b) = false

abbrev pub is_one_partition : Option Partition → Option Partition → Bool
is_one_partition (Some p) (Some q) = p.0 == q.0
is_one_partition None q = false
is_one_partition (Some p) None = false

-- both are parties of the roster, of one partition
abbrev pub is_same_partition : RosterView → Party → Party → Bool
is_same_partition roster a b = is_one_partition (partition_of roster a) (partition_of roster b)

-- two different parties of one partition
abbrev pub is_partner : RosterView → Party → Party → Bool
is_partner roster a b = not (is_same_party a b) && is_same_partition roster a b

-- whether an address is another than the one that is left out
abbrev pub is_other : Option ℕ → ℕ → Bool
is_other None address = true
is_other (Some but) address = not (address == but)

-- the addresses of a partition's hosts in script order, one of them left out
abbrev pub addresses_but : List HostRow → Partition → Option ℕ → List ℕ
addresses_but hosts partition but =
    map (λ row. row.address)
    (filter (λ row. row.partition.0 == partition.0 && is_other but row.address) hosts)

-- the addresses of a party's partners in a partition, where 0 stands for the manager unit
abbrev pub partners_in : RosterView → Party → Partition → List ℕ
partners_in roster (Host address) partition =
    0 ∷ addresses_but roster.hosts partition (Some address)
partners_in roster (Manager own) partition = addresses_but roster.hosts partition None

abbrev pub partners_of : RosterView → Party → Option (List ℕ)
partners_of roster party = option_map (partners_in roster party) (partition_of roster party)

abbrev pub with_level : RosterView → List ℕ → Level → RosterView
with_level roster name level =
    record roster { levels = roster.levels ++ record { name = name; level = level } ∷ [] }

abbrev pub with_keys : RosterView → KeyPair → RosterView
with_keys roster pair = record roster { keys = roster.keys ++ pair ∷ [] }

abbrev pub with_guard : RosterView → KeyPair → RosterView
with_guard roster pair = record roster { guard = Some pair }

abbrev pub with_host : RosterView → ℕ → Partition → RosterView
with_host roster address partition =
    let row : HostRow = record { address = address; partition = partition } in
    record roster { hosts = roster.hosts ++ row ∷ [] }
