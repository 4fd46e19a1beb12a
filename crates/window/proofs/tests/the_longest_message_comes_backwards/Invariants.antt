use Rattle.std.proofs.Common.{◌≡◌, true, None}
use Rattle.window.specs.Windows.{is_sender, waiting}
use Rattle.window.proofs.tests.the_longest_message_comes_backwards.Given as goal

abbrev pub invariant-loop-place : goal.invariant-loop-place
invariant-loop-place g l = record {
  partner : is_sender l.window 1 ≡ true;
  idle : waiting l.window 1 ≡ None;
}
