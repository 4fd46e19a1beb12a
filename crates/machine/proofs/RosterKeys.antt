-- A roster that can be used has all keys.
use Rattle.std.proofs.Common.{◌≡◌, ℕ, ◌<◌, length, true, Option, Some, None, refl, arith}
use Rattle.std.specs.Prelude.{IsSome, nat_lt, slice_get, unwrap_or}
use Rattle.std.proofs.lemmas.Bool.Decides.{nat_tests}
use Rattle.levels.specs.declared.level.Sealing.{Sealing}
use Rattle.levels.specs.declared.level.Sealing.TheVariants.{Clear, Des}
use Rattle.levels.specs.Kept.{IsComplete}
use Rattle.levels.specs.Keys.{pair_under, keys_at, guard_under, guard_of}
use Rattle.levels.specs.Rosters.{RosterView}
use Rattle.seal_core.specs.declared.KeyPair.{KeyPair}
use Rattle.machine.specs.Setup.{no_keys}
use Rattle.machine.proofs.Basics.{there_at}

its_own : (o : Option KeyPair) → IsSome o → o ≡ Some (unwrap_or o no_keys)
its_own None some = cc
its_own (Some pair) some = refl

is_some_pair : (o : Option KeyPair) (pair : KeyPair) → o ≡ Some pair → o ≡ Some (unwrap_or o no_keys)
is_some_pair None pair is = cc
is_some_pair (Some own) pair is = refl

pair_there : (sealing : Sealing) (roster : RosterView) (p : ℕ) → roster.sealing ≡ sealing → IsComplete roster
    → p < length roster.levels → pair_under sealing roster p ≡ Some (unwrap_or (pair_under sealing roster p) no_keys)
pair_there Clear roster p is complete lt =
    let inside : nat_lt p (length roster.levels) ≡ true = grind (arith, nat_tests) in rw inside refl
pair_there Des roster p is complete lt =
    let count = (complete.keys is).levels in
    let there = there_at roster.keys p (omega (arith, lt, count)) in
    is_some_pair (slice_get roster.keys p) there.0 there.1

pub keys_there : (roster : RosterView) (p : ℕ) → IsComplete roster → p < length roster.levels
    → keys_at roster (record { 0 = p }) ≡ Some (unwrap_or (keys_at roster (record { 0 = p })) no_keys)
keys_there roster p complete lt = pair_there roster.sealing roster p refl complete lt

guard_set : (sealing : Sealing) (roster : RosterView) → roster.sealing ≡ sealing → IsComplete roster
    → guard_under sealing roster ≡ Some (unwrap_or (guard_under sealing roster) no_keys)
guard_set Clear roster is complete = refl
guard_set Des roster is complete = its_own roster.guard (complete.keys is).guard

pub guard_there : (roster : RosterView) → IsComplete roster
    → guard_of roster ≡ Some (unwrap_or (guard_of roster) no_keys)
guard_there roster complete = guard_set roster.sealing roster refl complete
