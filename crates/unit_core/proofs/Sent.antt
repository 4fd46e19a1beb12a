-- Sends, one after the other.
use Rattle.std.proofs.Common.{◌≡◌, ℕ, ◌+◌, ◌*◌, ◌≤◌, List, [], ◌∷◌, ◌++◌, length, Bool, true, false, cond, Option, Some, None, Result, Ok, Err, refl, sym, ap, ap₂, ◌∙◌, arith, append-nil, append_assoc, length-append}
use Rattle.std.specs.Prelude.{nat_lt}
use Rattle.std.specs.List.{range_with_len}
use Rattle.std.proofs.lemmas.Bool.Decides.{nat_tests}
use Rattle.std.proofs.lemmas.List.FromFn.{length-map-range_with_len}
use Rattle.frame.specs.Pieces.{PieceView, pieces, piece_of}
use Rattle.frame.specs.declared.refused.SendRefused.{SendRefused}
use Rattle.host_side.specs.HostView.{HostView}
use Rattle.host_side.specs.Hosts.{SameNames}
use Rattle.host_side.specs.Sending.{send_answer}
use Rattle.ring_link.specs.EndView.{EndView}
use Rattle.ring_link.specs.Ends.{taken_by}
use Rattle.unit_core.specs.Views.{OutgoingView}
use Rattle.unit_core.specs.Sending.{number_for, after_send, streams_after, pieces_for, pieces_sent}
use Rattle.unit_core.specs.inside.Sides.{SendsAll}
use Rattle.unit_core.proofs.Offering.{same_end, same_both, few_pieces}

pub streams_after-append : (streams : List (Option ℕ)) (xs ys : List OutgoingView)
    → streams_after streams (xs ++ ys) ≡ streams_after (streams_after streams xs) ys
streams_after-append streams [] ys = refl
streams_after-append streams (x ∷ xs) ys = streams_after-append (after_send streams x) xs ys

pub pieces_sent-append : (a p : ℕ) (streams : List (Option ℕ)) (xs ys : List OutgoingView)
    → pieces_sent a p streams (xs ++ ys) ≡ pieces_sent a p streams xs ++ pieces_sent a p (streams_after streams xs) ys
pieces_sent-append a p streams [] ys = refl
pieces_sent-append a p streams (x ∷ xs) ys =
    let first = pieces_for a p x (number_for streams x) in
    ap (λ rest. first ++ rest) (pieces_sent-append a p (after_send streams x) xs ys)
    ∙ sym (append_assoc first (pieces_sent a p (after_send streams x) xs)
    (pieces_sent a p (streams_after (after_send streams x) xs) ys))

pub same_names : (host : HostView) → SameNames host host
same_names host = (refl, refl, λ a. refl)

pub same_names_both : (a b c : HostView) → SameNames a b → SameNames b c → SameNames a c
same_names_both a b c first second =
    (second.0 ∙ first.0, second.1 ∙ first.1, λ x. second.2 x ∙ first.2 x)

pub no_sends : (host : HostView) (end : EndView) → SendsAll [] host host end end
no_sends host end = record {
  names = same_names host;
  window = refl;
  room = refl;
  streams = refl;
  taken = sym (append-nil (taken_by end));
  received = refl;
  same = same_end end;
}

pub sends_both : (xs ys : List OutgoingView) (a b c : HostView) (e f g : EndView) → SendsAll xs a b e f
    → SendsAll ys b c f g
    → SendsAll (xs ++ ys) a c e g
sends_both xs ys a b c e f g first second = record {
  names = same_names_both a b c first.names second.names;
  window = second.window ∙ first.window;
  room = second.room ∙ first.room;
  streams =
      second.streams ∙ ap (λ streams. streams_after streams ys) first.streams
      ∙ sym (streams_after-append a.streams xs ys);
  taken =
      second.taken
      ∙ ap₂ (λ before pieces. before ++ pieces) first.taken
      (ap₂ (λ address partition. pieces_sent address partition b.streams ys) first.names.0 first.names.1
      ∙ ap (λ streams. pieces_sent a.address a.partition streams ys) first.streams)
      ∙ append_assoc (taken_by e) (pieces_sent a.address a.partition a.streams xs)
      (pieces_sent a.address a.partition (streams_after a.streams xs) ys)
      ∙ ap (λ pieces. taken_by e ++ pieces) (sym (pieces_sent-append a.address a.partition a.streams xs ys));
  received = second.received ∙ first.received;
  same = same_both e f g first.same second.same;
}

-- ---- how many pieces there are

short_where : (o : Option ℕ) (n number : ℕ) → send_answer o n ≡ Ok number → n ≤ 5632
short_where None n number is = absurd cc
short_where (Some next) n number is = short (nat_lt 5632 n) refl is where
  short : (b : Bool) → nat_lt 5632 n ≡ b → send_answer (Some next) n ≡ Ok number → n ≤ 5632
  short true long is = let no : Err _ ≡ Ok number = rw long at is in absurd cc
  short false long is = grind (arith, nat_tests, long)

few_for : (a p : ℕ) (streams : List (Option ℕ)) (x : OutgoingView) (r : Result ℕ SendRefused)
    → number_for streams x ≡ r
    → length (pieces_for a p x r) ≤ 64
few_for a p streams x (Ok number) is =
    let few = few_pieces x.message (short_where _ (length x.message) number is) in
    omega (arith, length-map-range_with_len (piece_of a x.to p number x.message) 0 (pieces x.message), few)
few_for a p streams x (Err why) is = omega arith

pub few_sent : (a p : ℕ) (streams : List (Option ℕ)) (xs : List OutgoingView)
    → length (pieces_sent a p streams xs) ≤ 64 * length xs
few_sent a p streams [] = omega arith
few_sent a p streams (x ∷ xs) =
    let first = pieces_for a p x (number_for streams x) in
    let rest = pieces_sent a p (after_send streams x) xs in
    omega (
      arith,
      length-append first rest,
      few_for a p streams x (number_for streams x) refl,
      few_sent a p (after_send streams x) xs,
    )
