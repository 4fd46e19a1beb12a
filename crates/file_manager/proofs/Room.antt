-- A name that stands, or one more where there is room, keeps a level within its limit.
use Rattle.std.proofs.Common.{◌≡◌, ℕ, ◌+◌, ◌≤◌, Bool, true, false, ◌||◌, arith, nat_lt}
use Rattle.std.specs.Prelude.{if◌then◌else◌}
use Rattle.std.proofs.lemmas.Bool.Decides.{nat_tests}

pub room_kept : (found : Bool) (n m : ℕ) → (found || nat_lt n 128) ≡ true → n ≤ 128
    → m ≡ n + (if found then 0 else 1) → m ≤ 128
room_kept true n m room short grown = omega (arith, grown, short)
room_kept false n m room short grown = grind (arith, nat_tests, room, grown)
