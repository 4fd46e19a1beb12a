use Rattle.std.proofs.Common.{◌≡◌, true, None}
use Rattle.window.specs.Windows.{is_sender, waiting}
use Rattle.window.proofs.tests.follow.Given as goal

abbrev pub invariant-loop-message : goal.invariant-loop-message
invariant-loop-message l = record {
  partner : is_sender l.window 1 ≡ true;
  idle : waiting l.window 1 ≡ None;
}
