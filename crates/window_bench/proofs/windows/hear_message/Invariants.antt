use Rattle.std.proofs.Common.{◌≡◌, ℕ, true, None}
use Rattle.window.specs.Windows.{is_sender, waiting}
use Rattle.window_bench.proofs.windows.hear_message.Given as goal

abbrev pub invariant-loop-i : goal.invariant-loop-i
invariant-loop-i l = record {
  partner : is_sender l.window 0 ≡ true;
  idle : (a : ℕ) → waiting l.window a ≡ None;
}
