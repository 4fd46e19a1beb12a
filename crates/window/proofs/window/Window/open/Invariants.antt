use Rattle.std.proofs.Common.{◌≡◌, ℕ, ◌<◌, None, length}
use Rattle.std.proofs.Math.ListN.{get_or}
use Rattle.window.specs.inside.Receptions.{Opened}
use Rattle.window.proofs.window.Window.open.Given as goal

abbrev pub invariant-loop-address : goal.invariant-loop-address
invariant-loop-address l = record {
  count : length l.receptions.items ≡ l.address;
  opened : (a : ℕ) → a < l.address → Opened l.partners a (get_or l.receptions.items a None);
}
