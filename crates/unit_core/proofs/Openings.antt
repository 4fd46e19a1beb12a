-- Frames that are opened, one after the other.
use Rattle.std.proofs.Common.{◌≡◌, ℕ, ◌+◌, ◌≤◌, List, [], ◌∷◌, ◌++◌, length, map, Bool, true, false, refl, sym, ap, ap₂, subst, ◌∙◌, arith, add-zero, zero-add, append-nil, append_assoc, length-append}
use Rattle.std.specs.Prelude.{vec_capacity}
use Rattle.std.proofs.lemmas.List.{map-append, length-map}
use Rattle.seal_core.specs.declared.KeyPair.{KeyPair}
use Rattle.seal_core.specs.Sealing.{Sealer}
use Rattle.frame.specs.Pieces.{PieceView}
use Rattle.frame.specs.Frames.{frame_of}
use Rattle.ring_link.specs.EndView.{EndView}
use Rattle.ring_link.specs.Ends.{received_by, taken_by, spare}
use Rattle.net_side.specs.NetView.{NetView}
use Rattle.net_side.specs.Nets.{IsInbound}
use Rattle.net_side.specs.declared.inbound.Inbound.{Inbound}
use Rattle.net_side.specs.declared.inbound.Inbound.TheVariants.{Foreign, Closed, Malformed, NotMine, Ours}
use Rattle.unit_core.specs.Hearing.{AreInbound, kind_of}
use Rattle.unit_core.specs.declared.parts.NetOut.{NetOut}
use Rattle.unit_core.specs.inside.Outs.{SameRoom}
use Rattle.unit_core.specs.inside.Ours.{pieces_in, places_from}
use Rattle.unit_core.specs.inside.Ends.{StaysEnd}
use Rattle.unit_core.specs.inside.Sides.{Opens, Seals, SealsSome}
use Rattle.unit_core.proofs.Offering.{same_end, same_both}

AreInbound-append : (sealed : Sealer) (net : NetView) (fs gs : List (List ℕ)) (xs ys : List Inbound)
    → AreInbound sealed net fs xs → AreInbound sealed net gs ys → AreInbound sealed net (fs ++ gs) (xs ++ ys)
AreInbound-append sealed net [] gs [] ys first second = second
AreInbound-append sealed net (f ∷ fs) gs (x ∷ xs) ys first second =
    (first.0, AreInbound-append sealed net fs gs xs ys first.1 second)
AreInbound-append sealed net [] gs (x ∷ xs) ys first second = absurd first
AreInbound-append sealed net (f ∷ fs) gs [] ys first second = absurd first

pub as_many : (sealed : Sealer) (net : NetView) (fs : List (List ℕ)) (xs : List Inbound)
    → AreInbound sealed net fs xs → length fs ≡ length xs
as_many sealed net [] [] are = refl
as_many sealed net (f ∷ fs) (x ∷ xs) are =
    let rest = as_many sealed net fs xs are.1 in
    omega (arith, rest)
as_many sealed net [] (x ∷ xs) are = absurd are
as_many sealed net (f ∷ fs) [] are = absurd are

pieces_in-append : (xs ys : List Inbound) → pieces_in (xs ++ ys) ≡ pieces_in xs ++ pieces_in ys
pieces_in-append [] ys = refl
pieces_in-append (Foreign ∷ xs) ys = pieces_in-append xs ys
pieces_in-append (Closed ∷ xs) ys = pieces_in-append xs ys
pieces_in-append (Malformed ∷ xs) ys = pieces_in-append xs ys
pieces_in-append (NotMine ∷ xs) ys = pieces_in-append xs ys
pieces_in-append (Ours x ∷ xs) ys = ap (λ zs. x ∷ zs) (pieces_in-append xs ys)

-- places, counted on
counted_on : (n : ℕ) (x : Inbound) (xs ys : List Inbound)
    → places_from (n + 1) (xs ++ ys) ≡ places_from (n + 1) xs ++ places_from ((n + 1) + length xs) ys
    → places_from (n + 1) (xs ++ ys) ≡ places_from (n + 1) xs ++ places_from (n + length (x ∷ xs)) ys
counted_on n x xs ys h =
    let same : (n + 1) + length xs ≡ n + length (x ∷ xs) = omega arith in
    h ∙ ap (λ k. places_from (n + 1) xs ++ places_from k ys) same

places_from-append : (n : ℕ) (xs ys : List Inbound)
    → places_from n (xs ++ ys) ≡ places_from n xs ++ places_from (n + length xs) ys
places_from-append n [] ys = rw add-zero refl
places_from-append n (Foreign ∷ xs) ys = counted_on n Foreign xs ys (places_from-append (n + 1) xs ys)
places_from-append n (Closed ∷ xs) ys = counted_on n Closed xs ys (places_from-append (n + 1) xs ys)
places_from-append n (Malformed ∷ xs) ys = counted_on n Malformed xs ys (places_from-append (n + 1) xs ys)
places_from-append n (NotMine ∷ xs) ys = counted_on n NotMine xs ys (places_from-append (n + 1) xs ys)
places_from-append n (Ours x ∷ xs) ys =
    ap (λ zs. n ∷ zs) (counted_on n (Ours x) xs ys (places_from-append (n + 1) xs ys))

-- ---- opening nothing, and opening more

same_room : (out : NetOut) → SameRoom out out
same_room out = record { kinds = refl; places = refl; sealed = refl }

pub same_room_both : (a b c : NetOut) → SameRoom a b → SameRoom b c → SameRoom a c
same_room_both a b c first second = record {
  kinds = second.kinds ∙ first.kinds;
  places = second.places ∙ first.places;
  sealed = second.sealed ∙ first.sealed;
}

pub opens_none : (sealed : Sealer) (net : NetView) (n : ℕ) (end : EndView) (out : NetOut)
    → Opens sealed net n [] end end out out
opens_none sealed net n end out = record {
  inbounds = [];
  each = tt;
  kinds = sym (append-nil out.kinds.items);
  places = sym (append-nil out.places.items);
  untouched = refl;
  taken = sym (append-nil (taken_by end));
  received = refl;
  spare = omega arith;
  same = same_end end;
  memory = same_room out;
}

pub opens_both : (sealed : Sealer) (net : NetView) (n : ℕ) (fs gs : List (List ℕ)) (d e f : EndView) (a b c : NetOut)
    → Opens sealed net n fs d e a b → Opens sealed net (n + length fs) gs e f b c
    → Opens sealed net n (fs ++ gs) d f a c
opens_both sealed net n fs gs d e f a b c first second =
    let xs = first.inbounds in
    let ys = second.inbounds in
    let many : n + length fs ≡ n + length xs = ap (λ k. n + k) (as_many sealed net fs xs first.each) in
    record {
      inbounds = xs ++ ys;
      each = AreInbound-append sealed net fs gs xs ys first.each second.each;
      kinds =
          second.kinds ∙ ap (λ before. before ++ map kind_of ys) first.kinds
          ∙ append_assoc a.kinds.items (map kind_of xs) (map kind_of ys)
          ∙ ap (λ more. a.kinds.items ++ more) (sym (map-append kind_of xs ys));
      places =
          second.places ∙ ap₂ (λ before k. before ++ places_from k ys) first.places many
          ∙ append_assoc a.places.items (places_from n xs) (places_from (n + length xs) ys)
          ∙ ap (λ more. a.places.items ++ more) (sym (places_from-append n xs ys));
      untouched = second.untouched ∙ first.untouched;
      taken =
          second.taken ∙ ap (λ before. before ++ pieces_in ys) first.taken
          ∙ append_assoc (taken_by d) (pieces_in xs) (pieces_in ys)
          ∙ ap (λ more. taken_by d ++ more) (sym (pieces_in-append xs ys));
      received = second.received ∙ first.received;
      spare = omega (arith, first.spare, second.spare, length-append fs gs);
      same = same_both d e f first.same second.same;
      memory = same_room_both a b c first.memory second.memory;
    }

few_places : (n : ℕ) (xs : List Inbound) → length (places_from n xs) ≤ length xs
few_places n [] = omega arith
few_places n (Foreign ∷ xs) = let few = few_places (n + 1) xs in omega (arith, few)
few_places n (Closed ∷ xs) = let few = few_places (n + 1) xs in omega (arith, few)
few_places n (Malformed ∷ xs) = let few = few_places (n + 1) xs in omega (arith, few)
few_places n (NotMine ∷ xs) = let few = few_places (n + 1) xs in omega (arith, few)
few_places n (Ours x ∷ xs) = let few = few_places (n + 1) xs in omega (arith, few)

-- how many kinds and places there are after one more frame
pub one_kind : (sealed : Sealer) (net : NetView) (n k : ℕ) (frame : List ℕ) (d e : EndView) (a b : NetOut)
    → Opens sealed net n (frame ∷ []) d e a b → length a.kinds.items ≤ k → length b.kinds.items ≤ k + 1
one_kind sealed net n k frame d e a b opens few =
    omega (
      arith,
      few,
      ap length opens.kinds,
      length-append a.kinds.items (map kind_of opens.inbounds),
      length-map opens.inbounds kind_of,
      as_many sealed net (frame ∷ []) opens.inbounds opens.each,
    )

pub one_place : (sealed : Sealer) (net : NetView) (n k : ℕ) (frame : List ℕ) (d e : EndView) (a b : NetOut)
    → Opens sealed net n (frame ∷ []) d e a b → length a.places.items ≤ k → length b.places.items ≤ k + 1
one_place sealed net n k frame d e a b opens few =
    omega (
      arith,
      few,
      ap length opens.places,
      length-append a.places.items (places_from n opens.inbounds),
      few_places n opens.inbounds,
      as_many sealed net (frame ∷ []) opens.inbounds opens.each,
    )

-- a frame that isn't the unit's
pub opens_other : (sealed : Sealer) (net : NetView) (n : ℕ) (frame : List ℕ) (x : Inbound) (end : EndView)
    (before after : NetOut)
    → IsInbound sealed net frame x → ((y : PieceView) → x ≡ Ours y → ⊥)
    → after.kinds.items ≡ before.kinds.items ++ kind_of x ∷ [] → after.places.items ≡ before.places.items
    → after.sealed.items ≡ before.sealed.items → SameRoom before after
    → Opens sealed net n (frame ∷ []) end end before after
opens_other sealed net n frame x end before after is other kinds places untouched memory = record {
  inbounds = x ∷ [];
  each = (is, tt);
  kinds = kinds;
  places = places ∙ sym (append-nil before.places.items) ∙ ap (λ more. before.places.items ++ more) (no_place x other);
  untouched = untouched;
  taken = sym (append-nil (taken_by end)) ∙ ap (λ more. taken_by end ++ more) (no_piece x other);
  received = refl;
  spare = omega arith;
  same = same_end end;
  memory = memory;
} where
  no_place : (x : Inbound) → ((y : PieceView) → x ≡ Ours y → ⊥) → [] ≡ places_from n (x ∷ [])
  no_place Foreign other = refl
  no_place Closed other = refl
  no_place Malformed other = refl
  no_place NotMine other = refl
  no_place (Ours y) other = absurd (other y refl)

  no_piece : (x : Inbound) → ((y : PieceView) → x ≡ Ours y → ⊥) → [] ≡ pieces_in (x ∷ [])
  no_piece Foreign other = refl
  no_piece Closed other = refl
  no_piece Malformed other = refl
  no_piece NotMine other = refl
  no_piece (Ours y) other = absurd (other y refl)

-- ---- pieces that are sealed while the other side works

pub seals_both : (sealed : Sealer) (keys : KeyPair) (xs ys : List PieceView) (a b c : NetOut)
    → Seals sealed keys xs a b
    → Seals sealed keys ys b c → Seals sealed keys (xs ++ ys) a c
seals_both sealed keys xs ys a b c first second =
    let frames = map (frame_of sealed keys) in
    record {
      frames =
          second.frames ∙ ap (λ before. before ++ frames ys) first.frames
          ∙ append_assoc a.sealed.items (frames xs) (frames ys)
          ∙ ap (λ more. a.sealed.items ++ more) (sym (map-append (frame_of sealed keys) xs ys));
      kinds = second.kinds ∙ first.kinds;
      places = second.places ∙ first.places;
      memory = same_room_both a b c first.memory second.memory;
    }

pub seals_none : (sealed : Sealer) (keys : KeyPair) (out : NetOut) → Seals sealed keys [] out out
seals_none sealed keys out = record {
  frames = sym (append-nil out.sealed.items);
  kinds = refl;
  places = refl;
  memory = same_room out;
}

pub sealed_next : (sealed : Sealer) (keys : KeyPair) (polls : ℕ) (d e f : EndView) (a b c : NetOut) (x : PieceView)
    → SealsSome sealed keys polls d e a b → received_by f ≡ received_by e ++ x ∷ [] → taken_by f ≡ taken_by e
    → StaysEnd e f → Seals sealed keys (x ∷ []) b c → SealsSome sealed keys (polls + 1) d f a c
sealed_next sealed keys polls d e f a b c x was came taken same one = record {
  came = was.came ++ x ∷ [];
  received = came ∙ ap (λ xs. xs ++ x ∷ []) was.received ∙ append_assoc (received_by d) was.came (x ∷ []);
  seals = seals_both sealed keys was.came (x ∷ []) a b c was.seals one;
  few = omega (arith, was.few, length-append was.came (x ∷ []));
  taken = taken ∙ was.taken;
  same = same_both d e f was.same same;
}
