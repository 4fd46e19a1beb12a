use Rattle.std.proofs.Common.{◌≡◌, true, None}
use Rattle.window.specs.Windows.{is_sender, waiting}
use Rattle.window.proofs.tests.the_window_does_what_the_scan_does.Given as goal

abbrev pub invariant-loop-step : goal.invariant-loop-step
invariant-loop-step g l = record {
  partner : is_sender l.window 1 ≡ true;
  idle : waiting l.window 1 ≡ None;
}
