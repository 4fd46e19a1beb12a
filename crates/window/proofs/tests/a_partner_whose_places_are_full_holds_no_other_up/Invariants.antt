use Rattle.std.proofs.Common.{◌≡◌, true, None}
use Rattle.window.specs.Windows.{is_sender, waiting}
use Rattle.window.proofs.tests.a_partner_whose_places_are_full_holds_no_other_up.Given as goal

abbrev pub invariant-loop-message : goal.invariant-loop-message
invariant-loop-message g l = record {
  partner : is_sender l.window 1 ≡ true;
  idle : waiting l.window 1 ≡ None;
  other_partner : is_sender l.window 2 ≡ true;
  other_idle : waiting l.window 2 ≡ None;
}

abbrev pub invariant-loop-message-2 : goal.invariant-loop-message-2
invariant-loop-message-2 g l = record {
  partner : is_sender l.window 1 ≡ true;
  idle : waiting l.window 1 ≡ None;
}
