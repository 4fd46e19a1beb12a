use Rattle.std.proofs.Common.{◌≡◌, ℕ, ◌<◌, length}
use Rattle.std.specs.Prelude.{slice_index}
use Rattle.window_bench.proofs.windows.addresses.Given as goal

abbrev pub invariant-loop-address : goal.invariant-loop-address
invariant-loop-address l = record {
  count : length l.addresses.items ≡ l.address;
  numbers : (i : ℕ) → i < l.address → slice_index l.addresses.items i ≡ i;
}
