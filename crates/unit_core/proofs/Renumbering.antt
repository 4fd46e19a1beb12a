-- Frames, and the pieces of those that are the unit's.
use Rattle.std.proofs.Common.{◌≡◌, ℕ, zero, suc, ◌+◌, ◌≤◌, ◌<◌, List, [], ◌∷◌, ◌++◌, ◌&&◌, length, drop, map, Bool, true, false, cond, refl, sym, ap, ap₂, subst, ◌∙◌, arith, add-one, length-drop, drop-cons}
use Rattle.std.specs.Prelude.{◌==◌, slice_index}
use Rattle.std.specs.List.{AllByRecursion, filter}
use Rattle.std.proofs.Math.ListN.{get_or}
use Rattle.std.proofs.lemmas.List.{map-append}
use Rattle.seal_core.specs.Sealing.{Sealer}
use Rattle.frame.specs.Pieces.{PieceView}
use Rattle.window.specs.ListRule.{completes, body}
use Rattle.host_side.specs.HostView.{HostView}
use Rattle.host_side.specs.Hosts.{is_for, has_stream, SameNames}
use Rattle.net_side.specs.NetView.{NetView}
use Rattle.net_side.specs.Nets as nets
use Rattle.net_side.specs.declared.inbound.Inbound.{Inbound}
use Rattle.net_side.specs.declared.inbound.Inbound.TheVariants.{Foreign, Closed, Malformed, NotMine, Ours}
use Rattle.unit_core.specs.Views.{GivenMessage}
use Rattle.unit_core.specs.Hearing.{AreInbound, with_piece, heard_more, heard_after, completed, given_by, given_from, ours_in}
use Rattle.unit_core.specs.inside.Messages.{renumbered}
use Rattle.unit_core.specs.inside.Ours.{pieces_in, places_from, as_ours, mine, AreMine}
use Rattle.unit_core.specs.inside.Units.{SameUnit}
use Rattle.unit_core.proofs.Hearings.{same_test, message_at}

-- what is heard is what the pieces of the unit's frames give
pub heard_ours : (h : ℕ → List PieceView) (xs : List Inbound)
    → heard_after h (as_ours (pieces_in xs)) ≡ heard_after h xs
heard_ours h [] = refl
heard_ours h (Foreign ∷ xs) = heard_ours h xs
heard_ours h (Closed ∷ xs) = heard_ours h xs
heard_ours h (Malformed ∷ xs) = heard_ours h xs
heard_ours h (NotMine ∷ xs) = heard_ours h xs
heard_ours h (Ours x ∷ xs) = heard_ours (with_piece h x) xs

at_front : (places : List ℕ) (k n : ℕ) (later : List ℕ) → drop k places ≡ n ∷ later
    → (slice_index places k ≡ n) × (drop (k + 1) places ≡ later)
at_front places k n later h =
    let lt : k < length places = omega (arith, length-drop k places, ap length h) in
    let e : n ∷ later ≡ get_or places k 0 ∷ drop (suc k) places = sym h ∙ drop-cons places k 0 lt in
    (cc, rw add-one cc)

-- a message that is given, by its frame
given_again : (places : List ℕ) (h : List PieceView) (k n : ℕ) (x : PieceView) → slice_index places k ≡ n
    → map (renumbered places) (completed h k x) ≡ completed h n x
given_again places h k n x is =
    by_case (completes h x) (message_at k x.from x.message (body (x ∷ h) x.message))
    (message_at n x.from x.message (body (x ∷ h) x.message))
    (ap (λ f. message_at f x.from x.message (body (x ∷ h) x.message)) is) where
      by_case : (b : Bool) (m m' : GivenMessage) → renumbered places m ≡ m'
          → map (renumbered places) (cond b (m ∷ []) []) ≡ cond b (m' ∷ []) []
      by_case true m m' same = ap (λ y. y ∷ []) same
      by_case false m m' same = refl

-- the messages, by frame
pub by_frame : (places : List ℕ) (h : ℕ → List PieceView) (k n : ℕ) (xs : List Inbound)
    → drop k places ≡ places_from n xs
    → map (renumbered places) (given_from h k (as_ours (pieces_in xs))) ≡ given_from h n xs
by_frame places h k n [] is = refl
by_frame places h k n (Foreign ∷ xs) is = by_frame places h k (n + 1) xs is
by_frame places h k n (Closed ∷ xs) is = by_frame places h k (n + 1) xs is
by_frame places h k n (Malformed ∷ xs) is = by_frame places h k (n + 1) xs is
by_frame places h k n (NotMine ∷ xs) is = by_frame places h k (n + 1) xs is
by_frame places h k n (Ours x ∷ xs) is =
    let f = at_front places k n (places_from (n + 1) xs) is in
    map-append (renumbered places) (completed (h x.from) k x)
    (given_from (with_piece h x) (k + 1) (as_ours (pieces_in xs)))
    ∙ ap₂ (λ a b. a ++ b) (given_again places (h x.from) k n x f.0)
    (by_frame places (with_piece h x) (k + 1) (n + 1) xs f.1)

pub count_places : (n : ℕ) (xs : List Inbound) → length (places_from n xs) ≡ ours_in xs
count_places n [] = refl
count_places n (Foreign ∷ xs) = count_places (n + 1) xs
count_places n (Closed ∷ xs) = count_places (n + 1) xs
count_places n (Malformed ∷ xs) = count_places (n + 1) xs
count_places n (NotMine ∷ xs) = count_places (n + 1) xs
count_places n (Ours x ∷ xs) = let rest = count_places (n + 1) xs in omega (arith, rest)

pub few_ours : (xs : List Inbound) → length (pieces_in xs) ≤ length xs
few_ours [] = omega arith
few_ours (Foreign ∷ xs) = let few = few_ours xs in omega (arith, few)
few_ours (Closed ∷ xs) = let few = few_ours xs in omega (arith, few)
few_ours (Malformed ∷ xs) = let few = few_ours xs in omega (arith, few)
few_ours (NotMine ∷ xs) = let few = few_ours xs in omega (arith, few)
few_ours (Ours x ∷ xs) = let few = few_ours xs in omega (arith, few)

-- ---- both sides ask the same of a piece

same_answer : (host : HostView) (net : NetView) (x : PieceView) → SameUnit host net → x.from < 256
    → is_for host x ≡ nets.is_for net x
same_answer host net x same small =
    ap (λ a. x.to == a && x.partition == host.partition && has_stream host x.from) same.address
    ∙ ap (λ p. x.to == net.address && x.partition == p && has_stream host x.from) same.partition
    ∙ ap (λ b. x.to == net.address && x.partition == net.partition && b) (same.partners x.from small)

abbrev pub AllFor : HostView → List PieceView → Type 0
AllFor host xs = AllByRecursion (λ x. is_for host x ≡ true) xs

-- the pieces of the unit's frames are for its host
pub all_for : (sealed : Sealer) (host : HostView) (net : NetView) (frames : List (List ℕ)) (xs : List Inbound)
    → SameUnit host net → AreInbound sealed net frames xs → AllFor host (pieces_in xs)
all_for sealed host net [] [] same are = tt
all_for sealed host net (f ∷ fs) (Foreign ∷ xs) same are = all_for sealed host net fs xs same are.1
all_for sealed host net (f ∷ fs) (Closed ∷ xs) same are = all_for sealed host net fs xs same are.1
all_for sealed host net (f ∷ fs) (Malformed ∷ xs) same are = all_for sealed host net fs xs same are.1
all_for sealed host net (f ∷ fs) (NotMine ∷ xs) same are = all_for sealed host net fs xs same are.1
all_for sealed host net (f ∷ fs) (Ours x ∷ xs) same are =
    (same_answer host net x same are.0.0.piece.from ∙ are.0.1, all_for sealed host net fs xs same are.1)
all_for sealed host net [] (x ∷ xs) same are = absurd are
all_for sealed host net (f ∷ fs) [] same are = absurd are

pub all_for_front : (host : HostView) (xs ys : List PieceView) → AllFor host (xs ++ ys) → AllFor host xs
all_for_front host [] ys all = tt
all_for_front host (x ∷ xs) ys all = (all.0, all_for_front host xs ys all.1)

pub all_for_back : (host : HostView) (xs ys : List PieceView) → AllFor host (xs ++ ys) → AllFor host ys
all_for_back host [] ys all = all
all_for_back host (x ∷ xs) ys all = all_for_back host xs ys all.1

pub all_for_still : (old new : HostView) (xs : List PieceView) → SameNames old new → AllFor old xs → AllFor new xs
all_for_still old new xs names all =
    subst (λ (test : PieceView → Bool). AllByRecursion (λ x. test x ≡ true) xs) (sym (same_test old new names)) all

pub all_mine : (host : HostView) (xs : List PieceView) → AllFor host xs → mine host xs ≡ xs
all_mine host [] all = refl
all_mine host (x ∷ xs) all = rw all.0 (ap (λ ys. x ∷ ys) (all_mine host xs all.1))
