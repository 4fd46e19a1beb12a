use Rattle.std.proofs.Common.{◌≡◌, ℕ, ◌<◌, false, length}
use Rattle.std.proofs.Math.ListN.{get_or}
use Rattle.net_side.specs.Nets.{is_among}
use Rattle.net_side.proofs.net.marked.Given as goal

abbrev pub invariant-loop-address : goal.invariant-loop-address
invariant-loop-address l = record {
  all : length l.marks ≡ 256;
  marks : (a : ℕ) → a < l.address → get_or l.marks a false ≡ is_among l.partners a;
}
