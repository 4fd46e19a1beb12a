use Rattle.std.proofs.Common.{◌≡◌, ℕ, ◌<◌, None, length}
use Rattle.std.proofs.Math.ListN.{get_or}
use Rattle.host_side.specs.Sending.{first_number}
use Rattle.host_side.proofs.host.first_numbers.Given as goal

abbrev pub invariant-loop-address : goal.invariant-loop-address
invariant-loop-address l = record {
  count : length l.streams.items ≡ l.address;
  numbers : (a : ℕ) → a < l.address → get_or l.streams.items a None ≡ first_number l.partners l.first a;
}
