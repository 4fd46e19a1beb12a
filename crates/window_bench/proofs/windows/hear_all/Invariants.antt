use Rattle.std.proofs.Common.{◌≡◌, ℕ, ◌<◌, true, None}
use Rattle.window.specs.Windows.{is_sender, waiting}
use Rattle.window_bench.proofs.windows.hear_all.Given as goal

abbrev pub invariant-loop-piece : goal.invariant-loop-piece
invariant-loop-piece l = record {
  partners : (a : ℕ) → a < l.count → is_sender l.window a ≡ true;
  idle : (a : ℕ) → waiting l.window a ≡ None;
}
