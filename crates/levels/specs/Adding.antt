-- What adding to a roster answers, and what it leaves.
use Rattle.std.specs.Prelude.{◌≡◌, ℕ, ◌<◌, List, length, Bool, true, false, None, Result, Ok, Err, IsSome}
use Rattle.seal_core.specs.declared.KeyPair.{KeyPair}
use Rattle.levels.specs.declared.level.Level.{Level}
use Rattle.levels.specs.declared.level.Partition.{Partition}
use Rattle.levels.specs.declared.roster.RosterStop.{RosterStop}
use Rattle.levels.specs.declared.roster.RosterStop.TheVariants.{Twice, Many, Key, OutOfMemory}
use Rattle.levels.specs.Rosters.{RosterView, is_taken, host_row, with_level, with_keys, with_guard, with_host}
use Rattle.levels.specs.Keys.{keys_of, pairs_of, is_pair_refused}

-- a level whose name and value are new, while there are fewer than 16, unless memory runs out
abbrev pub AddsLevel : RosterView → RosterView → List ℕ → Level → Result Partition RosterStop
    → Type 0
AddsLevel old new name level (Ok partition) =
    (is_taken old name level ≡ false) × (length old.levels < 16)
    × (partition.0 ≡ length old.levels) × (new ≡ with_level old name level)
AddsLevel old new name level (Err Twice) = (is_taken old name level ≡ true) × (new ≡ old)
AddsLevel old new name level (Err Many) =
    (is_taken old name level ≡ false) × (length old.levels ≡ 16) × (new ≡ old)
AddsLevel old new name level (Err Key) = ⊥
AddsLevel old new name level (Err OutOfMemory) =
    (is_taken old name level ≡ false) × (length old.levels < 16) × (new ≡ old)

-- whether one of two keys is refused behind all keys that were set
abbrev pub is_refused : RosterView → KeyPair → Bool
is_refused roster pair = is_pair_refused (keys_of (pairs_of roster)) pair

-- the key pair of the first level without one, unless a key is refused or memory runs out
abbrev pub AddsKeys : RosterView → RosterView → KeyPair → Result (Unit {0}) RosterStop → Type 0
AddsKeys old new pair (Ok done) = (is_refused old pair ≡ false) × (new ≡ with_keys old pair)
AddsKeys old new pair (Err Key) = (is_refused old pair ≡ true) × (new ≡ old)
AddsKeys old new pair (Err OutOfMemory) = (is_refused old pair ≡ false) × (new ≡ old)
AddsKeys old new pair (Err Twice) = ⊥
AddsKeys old new pair (Err Many) = ⊥

-- the guarantor's key pair, unless a key is refused
abbrev pub SetsGuard : RosterView → RosterView → KeyPair → Result (Unit {0}) RosterStop → Type 0
SetsGuard old new pair (Ok done) = (is_refused old pair ≡ false) × (new ≡ with_guard old pair)
SetsGuard old new pair (Err Key) = (is_refused old pair ≡ true) × (new ≡ old)
SetsGuard old new pair (Err OutOfMemory) = ⊥
SetsGuard old new pair (Err Twice) = ⊥
SetsGuard old new pair (Err Many) = ⊥

-- a host whose address is new, while there are fewer than 64, unless memory runs out
abbrev pub AddsHost : RosterView → RosterView → ℕ → Partition → Result (Unit {0}) RosterStop
    → Type 0
AddsHost old new address partition (Ok done) =
    (host_row old address ≡ None) × (length old.hosts < 64)
    × (new ≡ with_host old address partition)
AddsHost old new address partition (Err Twice) = IsSome (host_row old address) × (new ≡ old)
AddsHost old new address partition (Err Many) =
    (host_row old address ≡ None) × (length old.hosts ≡ 64) × (new ≡ old)
AddsHost old new address partition (Err Key) = ⊥
AddsHost old new address partition (Err OutOfMemory) =
    (host_row old address ≡ None) × (length old.hosts < 64) × (new ≡ old)
