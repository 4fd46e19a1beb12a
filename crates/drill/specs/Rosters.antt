-- The roster of every drill.
use Rattle.std.specs.Prelude.{ℕ, List, [], ◌∷◌, replicate, codes, Some}
use Rattle.seal_core.specs.declared.KeyPair.{KeyPair}
use Rattle.levels.specs.declared.level.Sealing.TheVariants.{Des}
use Rattle.levels.specs.declared.rows.LevelRow.{LevelRow}
use Rattle.levels.specs.declared.rows.HostRow.{HostRow}
use Rattle.levels.specs.Rosters.{RosterView}

-- two keys, each of them one byte eight times
abbrev pub pair_of : ℕ → ℕ → KeyPair
pair_of main check = record { main = replicate 8 main; check = replicate 8 check }

-- a level with its name, its rank and its categories
abbrev pub level_row : List ℕ → ℕ → ℕ → LevelRow
level_row name rank cats = record { name = name; level = record { rank = rank; cats = cats } }

-- a host with its address and the number of its level
abbrev pub host_row : ℕ → ℕ → HostRow
host_row address level = record { address = address; partition = record { 0 = level } }

-- U, C and S, of which each is below the next
abbrev pub drill_levels : List LevelRow
drill_levels =
    level_row (codes "U") 0 0 ∷ level_row (codes "C") 1 1 ∷ level_row (codes "S") 2 3 ∷ []

-- the keys of U, C and S
abbrev pub drill_pairs : List KeyPair
drill_pairs = pair_of 0x20 0x30 ∷ pair_of 0x40 0x50 ∷ pair_of 0x60 0x70 ∷ []

-- the guarantor's keys
abbrev pub drill_guard : KeyPair
drill_guard = pair_of 0x80 0x90

-- two hosts of each level
abbrev pub drill_hosts : List HostRow
drill_hosts =
    host_row 1 0 ∷ host_row 2 0 ∷ host_row 3 1 ∷ host_row 4 1 ∷ host_row 5 2 ∷ host_row 6 2 ∷ []

-- under DES sealing
unfoldable pub drill_roster : RosterView
drill_roster = record {
  sealing = Des;
  levels = drill_levels;
  keys = drill_pairs;
  guard = Some drill_guard;
  hosts = drill_hosts;
}
