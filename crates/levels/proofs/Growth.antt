-- A roster stays a roster as it grows.
use Rattle.std.proofs.Common.{◌≡◌, ℕ, ◌+◌, ◌<◌, List, [], ◌∷◌, ◌++◌, length, false, Option, Some, None, refl, ap, sym, ◌∙◌, subst, arith, length-append, append_assoc}
use Rattle.std.specs.Prelude.{IsNone, slice_get, ◌==◌, ◌||◌}
use Rattle.std.specs.Str.{bytes_eq}
use Rattle.std.proofs.lemmas.Bool.Decides.{nat_tests}
use Rattle.std.proofs.lemmas.Slice.Eq.{bytes_eq-Decides}
use Rattle.std.specs.List.{AllByRecursion}
use Rattle.seal_core.specs.declared.KeyPair.{KeyPair}
use Rattle.levels.specs.declared.level.Level.{Level}
use Rattle.levels.specs.declared.level.Sealing.{Sealing}
use Rattle.levels.specs.declared.level.Sealing.TheVariants.{Clear, Des}
use Rattle.levels.specs.declared.level.Partition.{Partition}
use Rattle.levels.specs.declared.rows.LevelRow.{LevelRow}
use Rattle.levels.specs.declared.rows.HostRow.{HostRow}
use Rattle.levels.specs.Rosters.{RosterView, is_same_level, is_taken, host_row, with_level, with_keys, with_guard, with_host}
use Rattle.levels.specs.Keys.{keys_of, listed, pairs_of, is_pair_refused}
use Rattle.levels.specs.Kept.{IsRoster, IsLevelRow, IsHostRow, IsKeyPair, AreKeys}
use Rattle.levels.specs.Adding.{is_refused}
use Rattle.levels.proofs.Apart.{apart_push, none_at, find_none_at, all_push, all_kept}
use Rattle.levels.proofs.SameKeys.{both_fresh, pair_push, pair_cons}

host_wider : (n : ℕ) (row : HostRow) → IsHostRow n row → IsHostRow (n + 1) row
host_wider n row h = record { least = h.least; most = h.most; partition = omega (arith, h.partition) }

-- a level with a new name and a new value
pub keeps_level : (roster : RosterView) (name : List ℕ) (level : Level) → IsRoster roster
    → is_taken roster name level ≡ false
    → length roster.levels < 16 → IsLevelRow (record { name = name; level = level })
    → IsRoster (with_level roster name level)
keeps_level roster name level h new room row =
    let test = λ (r : LevelRow). bytes_eq r.name name || is_same_level r.level level in
    let fresh = λ (i : ℕ) (a : LevelRow) (here : slice_get roster.levels i ≡ Some a). none_at test roster.levels i a
    new here in
    let longer : length (roster.levels ++ record { name = name; level = level } ∷ []) ≡ length roster.levels + 1 =
    length-append roster.levels (record { name = name; level = level } ∷ []) in
    record {
      level_room = omega arith;
      key_room = omega (arith, h.key_room);
      host_room = h.host_room;
      pairs = h.pairs;
      keys = h.keys;
      clear = λ is_clear. let none = h.clear is_clear in record { keys = none.keys; guard = none.guard };
      levels = all_push IsLevelRow roster.levels _ h.levels row;
      hosts = rw longer (all_kept _ _ (host_wider (length roster.levels)) roster.hosts h.hosts);
      names_apart = apart_push (λ r. r.name) roster.levels _ h.names_apart
          (λ i a here same. let t = fresh i a here in let e = (bytes_eq-Decides a.name name).1 same in
          grind (arith, nat_tests));
      values_apart = apart_push (λ r. r.level) roster.levels _ h.values_apart
          (λ i a here same. let t = fresh i a here in let r = ap (λ (l : Level). l.rank) same in
          let k = ap (λ (l : Level). l.cats) same in grind (arith, nat_tests));
      addresses_apart = h.addresses_apart;
    }

-- a host with a new address
pub keeps_host : (roster : RosterView) (address : ℕ) (partition : Partition) → IsRoster roster
    → host_row roster address ≡ None
    → length roster.hosts < 64 → IsHostRow (length roster.levels) (record { address = address; partition = partition })
    → IsRoster (with_host roster address partition)
keeps_host roster address partition h new room row =
    let longer : length (roster.hosts ++ record { address = address; partition = partition } ∷ [])
    ≡ length roster.hosts + 1 = length-append roster.hosts
    (record { address = address; partition = partition } ∷ []) in
    record {
      level_room = h.level_room;
      key_room = h.key_room;
      host_room = omega arith;
      pairs = h.pairs;
      keys = h.keys;
      clear = λ is_clear. let none = h.clear is_clear in record { keys = none.keys; guard = none.guard };
      levels = h.levels;
      hosts = all_push (IsHostRow (length roster.levels)) roster.hosts _ h.hosts row;
      names_apart = h.names_apart;
      values_apart = h.values_apart;
      addresses_apart = apart_push (λ r. r.address) roster.hosts _ h.addresses_apart
          (λ i a here same. let t = find_none_at (λ (r : HostRow). r.address == address) roster.hosts i a new here in
          grind (arith, nat_tests));
    }

clear≢des : {S : Type 0} → (s : Sealing) → s ≡ Clear → s ≡ Des → S
clear≢des s a b = let e = sym a ∙ b in cc

-- the key pair of one more level
pub keeps_keys : (roster : RosterView) (pair : KeyPair) → IsRoster roster → roster.sealing ≡ Des
    → length roster.keys < length roster.levels
    → is_refused roster pair ≡ false → IsKeyPair pair → IsRoster (with_keys roster pair)
keeps_keys roster pair h des room new blocks =
    let earlier = pairs_of roster in
    let same : earlier ++ pair ∷ [] ≡ listed roster.guard ++ (roster.keys ++ pair ∷ []) =
    append_assoc (listed roster.guard) roster.keys (pair ∷ []) in
    record {
      level_room = h.level_room;
      key_room = omega (arith, length-append roster.keys (pair ∷ []));
      host_room = h.host_room;
      levels = h.levels;
      pairs = subst (AllByRecursion IsKeyPair) same (all_push IsKeyPair earlier pair h.pairs blocks);
      hosts = h.hosts;
      names_apart = h.names_apart;
      values_apart = h.values_apart;
      keys = subst (λ (pairs : List KeyPair). AreKeys (keys_of pairs)) same
          (pair_push earlier pair h.keys (both_fresh (keys_of earlier) pair new));
      clear = λ is_clear. clear≢des roster.sealing is_clear des;
      addresses_apart = h.addresses_apart;
    }

pub is_unset : (guard : Option KeyPair) → IsNone guard → guard ≡ None
is_unset None h = refl
is_unset (Some pair) h = cc

-- the guarantor's key pair
pub keeps_guard : (roster : RosterView) (pair : KeyPair) → IsRoster roster → roster.sealing ≡ Des → roster.guard ≡ None
    → is_refused roster pair ≡ false → IsKeyPair pair → IsRoster (with_guard roster pair)
keeps_guard roster pair h des unset new blocks =
    let same : pairs_of roster ≡ roster.keys = ap (λ (g : Option KeyPair). listed g ++ roster.keys) unset in
    let keys : AreKeys (keys_of roster.keys) = subst (λ (pairs : List KeyPair). AreKeys (keys_of pairs)) same h.keys in
    let free : is_pair_refused (keys_of roster.keys) pair ≡ false =
    subst (λ (pairs : List KeyPair). is_pair_refused (keys_of pairs) pair ≡ false) same new in
    record {
      level_room = h.level_room;
      key_room = h.key_room;
      host_room = h.host_room;
      levels = h.levels;
      pairs = (blocks, subst (AllByRecursion IsKeyPair) same h.pairs);
      hosts = h.hosts;
      names_apart = h.names_apart;
      values_apart = h.values_apart;
      keys = pair_cons roster.keys pair keys (both_fresh (keys_of roster.keys) pair free);
      clear = λ is_clear. clear≢des roster.sealing is_clear des;
      addresses_apart = h.addresses_apart;
    }
