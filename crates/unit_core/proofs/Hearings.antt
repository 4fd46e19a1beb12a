-- Pieces that are heard, one after the other.
use Rattle.std.proofs.Common.{◌≡◌, ◌≢◌, ℕ, ◌+◌, ◌*◌, ◌<◌, ◌≤◌, List, [], ◌∷◌, ◌++◌, ◌&&◌, length, take, map, Bool, true, false, cond, Option, Some, None, refl, sym, ap, ap₂, subst, ◌∙◌, arith, add-zero, zero-add, append-nil, append_assoc, length-append}
use Rattle.std.specs.Prelude.{◌==◌}
use Rattle.std.specs.List.{filter}
use Rattle.std.proofs.Math.Seq.{take-append_seam}
use Rattle.std.proofs.lemmas.Bool.Decides.{nat_tests}
use Rattle.std.proofs.lemmas.List.{map-append}
use Rattle.std.proofs.lemmas.List.Elements.{filter-append}
use Rattle.std.proofs.lemmas.Option.{same_Some}
use Rattle.frame.specs.Pieces.{PieceView}
use Rattle.window.specs.ListRule.{completes, body}
use Rattle.window.specs.Windows.{SameElsewhere, LeftIn}
use Rattle.window.specs.WindowView.{PartnerView}
use Rattle.host_side.specs.HostView.{HostView}
use Rattle.host_side.specs.Hosts.{is_for, has_stream, StandsFor, given_at, with_front, out_after, SameNames}
use Rattle.host_side.specs.declared.host.Given.{Given}
use Rattle.net_side.specs.declared.inbound.Inbound.{Inbound}
use Rattle.net_side.specs.declared.inbound.Inbound.TheVariants.{Ours}
use Rattle.unit_core.specs.Views.{GivenMessage}
use Rattle.unit_core.specs.Hearing.{with_piece, heard_more, heard_after, completed, given_by, given_from, StandsForAll}
use Rattle.unit_core.specs.inside.Messages.{MessagesView, joined, AreFew}
use Rattle.unit_core.specs.inside.Ours.{as_ours, mine}
use Rattle.ring_link.specs.EndView.{EndView}
use Rattle.ring_link.specs.Ends.{received_by, taken_by}
use Rattle.unit_core.specs.inside.Ends.{StaysEnd}
use Rattle.unit_core.specs.inside.Sides.{Hears, HearsSome}
use Rattle.unit_core.proofs.Offering.{same_both}
use Rattle.unit_core.proofs.Laying.{joined-append}
use Rattle.unit_core.proofs.Sent.{same_names, same_names_both}

-- ---- lists of frames, joined

pub heard_after-append : (h : ℕ → List PieceView) (xs ys : List Inbound)
    → heard_after h (xs ++ ys) ≡ heard_after (heard_after h xs) ys
heard_after-append h [] ys = refl
heard_after-append h (x ∷ xs) ys = heard_after-append (heard_more h x) xs ys

pub given_from-append : (h : ℕ → List PieceView) (n : ℕ) (xs ys : List Inbound)
    → given_from h n (xs ++ ys) ≡ given_from h n xs ++ given_from (heard_after h xs) (n + length xs) ys
given_from-append h n [] ys = rw add-zero refl
given_from-append h n (x ∷ xs) ys =
    let same : (n + 1) + length xs ≡ n + length (x ∷ xs) = omega arith in
    ap (λ rest. given_by h n x ++ rest)
    (given_from-append (heard_more h x) (n + 1) xs ys
    ∙ ap (λ k. given_from (heard_more h x) (n + 1) xs ++ given_from (heard_after (heard_more h x) xs) k ys) same)
    ∙ sym (append_assoc (given_by h n x) (given_from (heard_more h x) (n + 1) xs) _)

as_ours-append : (xs ys : List PieceView) → as_ours (xs ++ ys) ≡ as_ours xs ++ as_ours ys
as_ours-append xs ys = map-append Ours xs ys

length-as_ours : (xs : List PieceView) → length (as_ours xs) ≡ length xs
length-as_ours [] = refl
length-as_ours (x ∷ xs) = let rest = length-as_ours xs in omega (arith, rest)

-- ---- hearing nothing, and hearing more

pub hears_none : (host : HostView) (n : ℕ) (messages : MessagesView) → Hears host host n [] messages messages
hears_none host n messages = record {
  names = same_names host;
  streams = refl;
  room = refl;
  heard = λ h stands. stands;
  given = λ h stands. sym (append-nil messages.list);
  few = λ k few. rw add-zero few;
  memory = refl;
}

pub hears_both : (xs ys : List PieceView) (a b c : HostView) (n : ℕ) (l m r : MessagesView) → Hears a b n xs l m
    → Hears b c (n + length xs) ys m r → Hears a c n (xs ++ ys) l r
hears_both xs ys a b c n l m r first second = record {
  names = same_names_both a b c first.names second.names;
  streams = second.streams ∙ first.streams;
  room = second.room ∙ first.room;
  heard = λ h stands.
      subst (StandsForAll c)
      (sym (heard_after-append h (as_ours xs) (as_ours ys)) ∙ ap (heard_after h) (sym (as_ours-append xs ys)))
      (second.heard (heard_after h (as_ours xs)) (first.heard h stands));
  given = λ h stands.
      let later = heard_after h (as_ours xs) in
      second.given later (first.heard h stands)
      ∙ ap₂ (λ before k. before ++ given_from later k (as_ours ys)) (first.given h stands)
      (ap (λ k. n + k) (sym (length-as_ours xs)))
      ∙ append_assoc l.list (given_from h n (as_ours xs)) (given_from later (n + length (as_ours xs)) (as_ours ys))
      ∙ ap (λ more. l.list ++ more)
      (sym (given_from-append h n (as_ours xs) (as_ours ys)) ∙ ap (given_from h n) (sym (as_ours-append xs ys)));
  few = λ k few.
      let all = second.few (k + length xs) (first.few k few) in
      let same : (k + length xs) + length ys ≡ k + length (xs ++ ys) = omega (arith, length-append xs ys) in
      subst (λ j. AreFew j r.list) same all;
  memory = second.memory ∙ first.memory;
}

-- ---- the test of the host's side stays the same

pub same_test : (old new : HostView) → SameNames old new → is_for new ≡ is_for old
same_test old new names =
    let pointwise : (x : PieceView) → is_for new x ≡ is_for old x = λ x.
    ap (λ a. x.to == a && x.partition == new.partition && has_stream new x.from) names.0
    ∙ ap (λ p. x.to == old.address && x.partition == p && has_stream new x.from) names.1
    ∙ ap (λ b. x.to == old.address && x.partition == old.partition && b) (names.2 x.from) in
    λ i x. pointwise x i

pub same_mine : (old new : HostView) (xs : List PieceView) → SameNames old new → mine new xs ≡ mine old xs
same_mine old new xs names = ap (λ (test : PieceView → Bool). filter test xs) (same_test old new names)

pub mine-append : (host : HostView) (xs ys : List PieceView) → mine host (xs ++ ys) ≡ mine host xs ++ mine host ys
mine-append host xs ys = filter-append (is_for host) xs ys

pub mine_one : (host : HostView) (x : PieceView) → is_for host x ≡ true → mine host (x ∷ []) ≡ x ∷ []
mine_one host x is = rw is refl

pub mine_none : (host : HostView) (x : PieceView) → is_for host x ≡ false → mine host (x ∷ []) ≡ []
mine_none host x is = rw is refl

-- ---- one piece

third : (a b c : Bool) → (a && b && c) ≡ true → c ≡ true
third true true c h = h
third true false c h = absurd cc
third false b c h = absurd cc

-- its sender is a partner
pub from_partner : (host : HostView) (x : PieceView) → is_for host x ≡ true → has_stream host x.from ≡ true
from_partner host x is = third (x.to == host.address) (x.partition == host.partition) (has_stream host x.from) is

stands_at : (host : HostView) (a : ℕ) (h k : List PieceView) (b : Bool) → (b ≡ true → StandsFor host a h)
    → (b ≡ false → StandsFor host a k) → StandsFor host a (cond b h k)
stands_at host a h k true first second = first refl
stands_at host a h k false first second = second refl

pub stands_more : (old new : HostView) (x : PieceView) (h : ℕ → List PieceView) → SameNames old new
    → SameElsewhere old.window new.window x.from → StandsFor new x.from (x ∷ h x.from) → StandsForAll old h
    → StandsForAll new (with_piece h x)
stands_more old new x h names others own stands = λ a lt partner.
    stands_at new a (x ∷ h a) (h a) (x.from == a)
    (λ same. let e : x.from ≡ a = grind (arith, nat_tests, same) in subst (λ u. StandsFor new u (x ∷ h u)) e own)
    (λ differ.
    let apart : a ≢ x.from = λ e. grind (arith, nat_tests, differ, e) in
    subst (λ (o : Option PartnerView). LeftIn (h a) o) (sym (others a apart))
    (stands a lt (sym (names.2 a) ∙ partner)))

abbrev pub message_at : ℕ → ℕ → ℕ → List ℕ → GivenMessage
message_at n from message bytes = record { frame = n; from = from; message = message; body = bytes }

none_completed : (b : Bool) (g : Given) (m : GivenMessage) → None ≡ cond b (Some g) None → [] ≡ cond b (m ∷ []) []
none_completed true g m is = absurd cc
none_completed false g m is = refl

-- a piece that completes no message
pub gives_none : (h : List PieceView) (x : PieceView) (n : ℕ) → None ≡ given_at h x → [] ≡ completed h n x
gives_none h x n is = none_completed (completes h x) _ _ is

one_completed : (b : Bool) (x : PieceView) (n : ℕ) (message before after : List ℕ) (given : Given)
    → Some given ≡ cond b (Some (record { from = x.from; message = x.message; length = length message })) None
    → after ≡ cond b (with_front before message) before
    → message_at n x.from given.message (take given.length after) ∷ []
    ≡ cond b (message_at n x.from x.message message ∷ []) []
one_completed true x n message before after given is out =
    let same = same_Some _ _ is in
    ap (λ (g : Given). message_at n x.from g.message (take g.length after) ∷ []) same
    ∙ ap (λ bytes. message_at n x.from x.message (take (length message) bytes) ∷ []) out
    ∙ ap (λ bytes. message_at n x.from x.message bytes ∷ []) (take-append_seam message _)
one_completed false x n message before after given is out = absurd cc

-- a piece that completes one
pub gives_one : (h : List PieceView) (x : PieceView) (n from len : ℕ) (before after : List ℕ) (given : Given)
    → from ≡ x.from → len ≡ given.length → Some given ≡ given_at h x → after ≡ out_after before h x
    → message_at n from given.message (take len after) ∷ [] ≡ completed h n x
gives_one h x n from len before after given sender long is out =
    ap₂ (λ f k. message_at n f given.message (take k after) ∷ []) sender long
    ∙ one_completed (completes h x) x n (body (x ∷ h) x.message) before after given is out

-- the side hears a piece, and gives what it completes
pub hears_one : (old new : HostView) (n : ℕ) (x : PieceView) (before after : MessagesView) (more : List GivenMessage)
    → is_for old x ≡ true → x.from < 256 → SameNames old new → new.streams ≡ old.streams → new.room ≡ old.room
    → SameElsewhere old.window new.window x.from
    → ((h : List PieceView) → StandsFor old x.from h → StandsFor new x.from (x ∷ h))
    → after.list ≡ before.list ++ more → ((h : List PieceView) → StandsFor old x.from h → more ≡ completed h n x)
    → ((k : ℕ) → AreFew k before.list → AreFew (k + 1) after.list) → after.room ≡ before.room
    → Hears old new n (x ∷ []) before after
hears_one old new n x before after more own small names streams room others stands pushed gives few memory =
    let of_sender : (h : ℕ → List PieceView) → StandsForAll old h → StandsFor old x.from (h x.from) = λ h all.
    all x.from small (from_partner old x own) in
    record {
      names = names;
      streams = streams;
      room = room;
      heard = λ h all. stands_more old new x h names others (stands (h x.from) (of_sender h all)) all;
      given = λ h all.
          pushed
          ∙ ap (λ messages. before.list ++ messages)
          (gives (h x.from) (of_sender h all) ∙ sym (append-nil (completed (h x.from) n x)));
      few = few;
      memory = memory;
    }

-- at most one message more, of at most 5,632 bytes
pub few_more : (k : ℕ) (l : List GivenMessage) (m : GivenMessage) → length m.body ≤ 5632 → AreFew k l
    → AreFew (k + 1) (l ++ m ∷ [])
few_more k l m short few = record {
  count = omega (arith, few.count, length-append l (m ∷ []));
  bytes = omega (
    arith,
    few.bytes,
    ap length (joined-append l (m ∷ [])),
    length-append (joined l) (m.body ++ []),
    ap length (append-nil m.body),
    short,
  );
}

pub few_still : (k : ℕ) (l : List GivenMessage) → AreFew k l → AreFew (k + 1) l
few_still k l few = record { count = omega (arith, few.count); bytes = omega (arith, few.bytes) }

-- ---- pieces that come while the other side works

pub heard_next : (polls : ℕ) (first now new : HostView) (e f g : EndView) (l m r : MessagesView) (j k : ℕ)
    (x : PieceView)
    → HearsSome polls first now e f l m j → received_by g ≡ received_by f ++ x ∷ [] → taken_by g ≡ taken_by f
    → StaysEnd f g
    → Hears now new j (mine now (x ∷ [])) m r → k ≡ j + length (mine now (x ∷ [])) → k ≤ j + 1
    → HearsSome (polls + 1) first new e g l r k
heard_next polls first now new e f g l m r j k x was came taken same one count few =
    let before = mine first was.came in
    let own : mine now (x ∷ []) ≡ mine first (x ∷ []) = same_mine first now (x ∷ []) was.hears.names in
    let all : before ++ mine now (x ∷ []) ≡ mine first (was.came ++ x ∷ []) =
    ap (λ xs. before ++ xs) own ∙ sym (mine-append first was.came (x ∷ [])) in
    let number : j ≡ 0 + length before = was.count ∙ sym (zero-add (length before)) in
    record {
      came = was.came ++ x ∷ [];
      received =
          came ∙ ap (λ xs. xs ++ x ∷ []) was.received ∙ append_assoc (received_by e) was.came (x ∷ []);
      hears = subst (λ (xs : List PieceView). Hears first new 0 xs l r) all
          (hears_both before (mine now (x ∷ [])) first now new 0 l m r was.hears
          (subst (λ n. Hears now new n (mine now (x ∷ [])) m r) number one));
      count =
          count ∙ ap (λ n. n + length (mine now (x ∷ []))) was.count
          ∙ sym (length-append before (mine now (x ∷ []))) ∙ ap length all;
      few = omega (arith, few, was.few);
      taken = taken ∙ was.taken;
      same = same_both e f g was.same same;
    }
