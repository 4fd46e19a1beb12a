use Rattle.std.proofs.Common.{◌≡◌, ℕ, true, None}
use Rattle.window.specs.Windows.{is_sender, waiting}
use Rattle.window_bench.proofs.windows.send_through.Given as goal

abbrev pub invariant-loop-message : goal.invariant-loop-message
invariant-loop-message l = record {
  partner : is_sender l.window 0 ≡ true;
  idle : (a : ℕ) → waiting l.window a ≡ None;
}
