use Rattle.std.proofs.Common.{◌≡◌, true, None}
use Rattle.window.specs.Windows.{is_sender, waiting, SameElsewhere}
use Rattle.window.proofs.tests.hear_part.Given as goal

abbrev pub invariant-loop-place : goal.invariant-loop-place
invariant-loop-place l = record {
  partner : is_sender l.window l.from ≡ true;
  idle : waiting l.window l.from ≡ None;
  others : SameElsewhere l.fn.window l.window l.from;
}
