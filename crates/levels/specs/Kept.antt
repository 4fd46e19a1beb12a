-- What holds of every roster.
use Rattle.std.specs.Prelude.{◌≡◌, ℕ, ◌<◌, ◌≤◌, ◌^◌, [], List, length, true, None, Some, IsSome, slice_get}
use Rattle.std.specs.List.{AllByRecursion}
use Rattle.seal_core.specs.declared.KeyPair.{KeyPair}
use Rattle.seal_core.specs.Blocks.{IsBlock}
use Rattle.des_cbc.specs.Bits.{block_bits}
use Rattle.des_cbc.specs.Parity.{without_parity, IsWeak}
use Rattle.levels.specs.declared.level.Sealing.TheVariants.{Clear, Des}
use Rattle.levels.specs.declared.rows.LevelRow.{LevelRow}
use Rattle.levels.specs.declared.rows.HostRow.{HostRow}
use Rattle.levels.specs.Names.{is_level_name}
use Rattle.levels.specs.Rosters.{RosterView}
use Rattle.levels.specs.Keys.{keys_of, pairs_of}

-- no two elements have one key
abbrev pub AreApart : {X K : Type 0} → (X → K) → List X → Type 0
AreApart {X = X} key xs =
    (i j : ℕ) (a b : X) → slice_get xs i ≡ Some a → slice_get xs j ≡ Some b → key a ≡ key b → i ≡ j

pub record IsLevelRow (row : LevelRow) : Type 0 where
  pub name : is_level_name row.name ≡ true
  pub rank : row.level.rank ≤ 7
  pub cats : row.level.cats < 2 ^ 16

pub record IsHostRow (levels : ℕ) (row : HostRow) : Type 0 where
  pub least : 1 ≤ row.address
  pub most : row.address ≤ 250
  pub partition : row.partition.0 < levels

pub record IsKeyPair (pair : KeyPair) : Type 0 where
  pub main : IsBlock pair.main
  pub check : IsBlock pair.check

-- no key is weak, and no two agree on all bits but the parity bits
pub record AreKeys (keys : List (List ℕ)) : Type 0 where
  pub strong : AllByRecursion (λ key. ¬ IsWeak key) keys
  pub apart : AreApart (λ key. without_parity (block_bits key)) keys

pub record HasNoKeys (roster : RosterView) : Type 0 where
  pub keys : roster.keys ≡ []
  pub guard : roster.guard ≡ None

pub record IsRoster (roster : RosterView) : Type 0 where
  pub level_room : length roster.levels ≤ 16
  pub key_room : length roster.keys ≤ length roster.levels
  pub host_room : length roster.hosts ≤ 64
  pub levels : AllByRecursion IsLevelRow roster.levels
  pub pairs : AllByRecursion IsKeyPair (pairs_of roster)
  pub hosts : AllByRecursion (IsHostRow (length roster.levels)) roster.hosts
  pub names_apart : AreApart (λ row. row.name) roster.levels
  pub values_apart : AreApart (λ row. row.level) roster.levels
  pub keys : AreKeys (keys_of (pairs_of roster))
  pub clear : roster.sealing ≡ Clear → HasNoKeys roster
  pub addresses_apart : AreApart (λ row. row.address) roster.hosts

-- under DES each level has its key pair and the guarantor its own
pub record HasAllKeys (roster : RosterView) : Type 0 where
  pub levels : length roster.keys ≡ length roster.levels
  pub guard : IsSome roster.guard

-- A roster can be used: it has a level, and all keys are set.
pub record IsComplete (roster : RosterView) : Type 0 where
  pub some : 0 < length roster.levels
  pub keys : roster.sealing ≡ Des → HasAllKeys roster
