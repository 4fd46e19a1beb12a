-- When pieces that were cut from messages give them.
use Rattle.std.proofs.Common.{◌≡◌, ℕ, zero, suc, ◌+◌, ◌-◌, ◌*◌, ◌<◌, ◌≤◌, List, [], ◌∷◌, ◌++◌, ◌&&◌, ◌||◌, length, Bool, true, false, Option, Some, None, refl, sym, ◌∙◌, ap, append-nil, ◌⊎◌, inl, inr, arith}
use Rattle.std.specs.Prelude.{if◌then◌else◌, slice_get, ◌==◌, nat_lt, not, unwrap_or}
use Rattle.std.specs.List.{list_any, list_all, range_with_len, flat_map, AllByRecursion}
use Rattle.std.proofs.lemmas.Bool.Decides.{nat_tests}
use Rattle.std.proofs.lemmas.Option.{same_Some}
use Rattle.frame.specs.Pieces.{PieceView, piece_count, pieces, piece_bytes, used_bytes}
use Rattle.window.specs.ListRule as list
use Rattle.window.specs.ListRule.{or_else, last_of, is_at, is_held, is_whole, bytes_at, places_to, body, given_in, completes}
use Rattle.frame.specs.Ahead.{messages_ahead}
use Rattle.machine.specs.Given.{has_piece, has_all, has_later, is_given}
use Rattle.engine.specs.Genuine.{IsPieceOf, HaveArrived, AreGenuine}
use Rattle.engine.specs.inside.Facts.{PiecesHold}
use Rattle.engine.proofs.Cases.{bool_cases}

-- the messages sent before others keep their numbers
get_before : (messages more : List (List ℕ)) (j : ℕ) (m : List ℕ) → slice_get messages j ≡ Some m
    → slice_get (messages ++ more) j ≡ Some m
get_before [] more j m is = cc
get_before (x ∷ messages) more zero m is = is
get_before (x ∷ messages) more (suc j) m is = get_before messages more j m is

still_piece : (messages more : List (List ℕ)) (x : PieceView) → IsPieceOf messages x
    → IsPieceOf (messages ++ more) x
still_piece messages more x p = record {
  message = p.message;
  there = get_before messages more x.message p.message p.there;
  within = p.within;
  last = p.last;
  bytes = p.bytes;
}

still_pieces : (messages more : List (List ℕ)) (h : List PieceView)
    → AllByRecursion (IsPieceOf messages) h
    → AllByRecursion (IsPieceOf (messages ++ more)) h
still_pieces messages more [] all = tt
still_pieces messages more (x ∷ h) all =
    (still_piece messages more x all.0, still_pieces messages more h all.1)

-- later messages leave the pieces as they are
pub more_sent : (messages more : List (List ℕ)) (h : List PieceView) (arrived : List (ℕ × ℕ))
    (numbers : List ℕ) → AreGenuine messages h arrived numbers
    → AreGenuine (messages ++ more) h arrived numbers
more_sent messages more h arrived numbers g = record {
  come = record {
    pieces = still_pieces messages more h g.come.pieces;
    same = g.come.same;
    later = g.come.later;
  };
  given = g.given;
}

-- what has arrived counts as a set
pub same_arrived : (messages : List (List ℕ)) (h : List PieceView) (arrived arrived' : List (ℕ × ℕ))
    → HaveArrived messages h arrived →
    ((j i : ℕ) → has_piece arrived' j i ≡ has_piece arrived j i) →
    ((j : ℕ) → has_later arrived' j ≡ has_later arrived j) →
    HaveArrived messages h arrived'
same_arrived messages h arrived arrived' g same later = record {
  pieces = g.pieces;
  same = λ j i. same j i ∙ g.same j i;
  later = λ j. later j ∙ g.later j;
}

pub one_more : (messages : List (List ℕ)) (h : List PieceView) (arrived : List (ℕ × ℕ))
    (x : PieceView) → HaveArrived messages h arrived
    → IsPieceOf messages x →
    HaveArrived messages (x ∷ h) ((x.message, x.piece) ∷ arrived)
one_more messages h arrived x g p = record {
  pieces = (p, g.pieces);
  same = λ j i. ap (λ b. (x.message == j && x.piece == i) || b) (g.same j i);
  later = λ j. ap (λ b. nat_lt j x.message || b) (g.later j);
}

pub none_yet : (messages : List (List ℕ)) → AreGenuine messages [] [] []
none_yet messages = record {
  come = record {
    pieces = tt;
    same = λ j i. refl;
    later = λ j. refl;
  };
  given = λ j. refl;
}

pub hold : ((message : List ℕ) (n : ℕ) → length message ≤ 88 * n
    → flat_map (piece_bytes message) (range_with_len 0 n) ≡ message)
    → ((message : List ℕ) → length message ≤ 88 * pieces message) → PiecesHold
hold joined reached message = joined message (pieces message) (reached message)

same_number : (a b : ℕ) → (a == b) ≡ true → a ≡ b
same_number a b h = grind (arith, nat_tests)

-- a piece of message j was cut from it
message_of : (messages : List (List ℕ)) (x : PieceView) (j : ℕ) (m : List ℕ)
    (p : IsPieceOf messages x) →
    slice_get messages j ≡ Some m → (x.message == j) ≡ true → p.message ≡ m
message_of messages x j m p is own =
    let j_is : x.message ≡ j = same_number x.message j own in
    same_Some p.message m (sym p.there ∙ ap (slice_get messages) j_is ∙ is)

last_is : (messages : List (List ℕ)) (x : PieceView) (j : ℕ) (m : List ℕ) (p : IsPieceOf messages x)
    →
    slice_get messages j ≡ Some m → (x.message == j) ≡ true → x.last ≡ pieces m - 1
last_is messages x j m p is own = p.last
    ∙ ap (λ b. pieces b - 1) (message_of messages x j m p is own)

-- whether a place of a message has a piece
abbrev has_place_at : List PieceView → ℕ → ℕ → Bool
has_place_at h j i = list_any (λ x. x.message == j && x.piece == i) h

-- the first piece of a message tells how many it has
last_known : (messages : List (List ℕ)) (h : List PieceView) (j : ℕ) (m : List ℕ)
    → AllByRecursion (IsPieceOf messages) h
    → slice_get messages j ≡ Some m →
    (last_of h j ≡ Some (pieces m - 1))
    ⊎ ((last_of h j ≡ None) × ((i : ℕ) → has_place_at h j i ≡ false))
last_known messages [] j m all is = inr (refl, λ i. refl)
last_known messages (x ∷ h) j m all is =
    elim (last_known messages h j m all.1 is) [
      | inl known ↦ inl (rw known refl)
      | inr none ↦
          let none_before = none.0 in
          elim (bool_cases (x.message == j)) [
            | inl own ↦ (let last = last_is messages x j m all.0 is own in
                inl (rw (none_before, own, last) refl))
            | inr other ↦ inr (rw (none_before, other) refl, λ i. rw other (none.1 i))
          ]
    ]

-- a place is held where a piece of it is there
held_where : (messages : List (List ℕ)) (h : List PieceView) (j : ℕ) (m : List ℕ) (i : ℕ)
    → AllByRecursion (IsPieceOf messages) h
    → slice_get messages j ≡ Some m →
    is_held h j (pieces m - 1) i ≡ has_place_at h j i
held_where messages [] j m i all is = refl
held_where messages (x ∷ h) j m i all is =
    place_alike (x.message == j) (x.piece == i) (x.last == pieces m - 1)
    (is_held h j (pieces m - 1) i) (has_place_at h j i)
    (λ own. is_same_number x.last (pieces m - 1) (last_is messages x j m all.0 is own))
    (held_where messages h j m i all.1 is)
  where
    is_same_number : (a b : ℕ) → a ≡ b → (a == b) ≡ true
    is_same_number a b e = grind (arith, nat_tests)

    place_alike : (a b c r s : Bool) → (a ≡ true → c ≡ true) → r ≡ s
        → ((a && b && c) || r) ≡ ((a && b) || s)
    place_alike true true c r s last same = let t = last refl in rw t refl
    place_alike true false c r s last same = same
    place_alike false b c r s last same = same

pub all_alike : (P Q : ℕ → Bool) (xs : List ℕ) → ((i : ℕ) → P i ≡ Q i) → list_all P xs ≡ list_all Q xs
all_alike P Q [] same = refl
all_alike P Q (x ∷ xs) same = grind (arith, same x, all_alike P Q xs same)

one_at_least : (n : ℕ) → 0 < piece_count n
unfolding piece_count
one_at_least n = omega arith

-- a message is whole where all its pieces have arrived
pub whole_when : (messages : List (List ℕ)) (h : List PieceView) (arrived : List (ℕ × ℕ)) (j : ℕ)
    (m : List ℕ) →
    HaveArrived messages h arrived → slice_get messages j ≡ Some m →
    is_whole h j ≡ has_all (Some m) arrived j
whole_when messages h arrived j m g is =
    elim (last_known messages h j m g.pieces is) [
      | inl known ↦
          let count : pieces m - 1 + 1 ≡ pieces m = omega (arith, one_at_least (length m)) in
          rw known (ap (λ n. list_all (is_held h j (pieces m - 1)) (range_with_len 0 n)) count
          ∙ all_alike (is_held h j (pieces m - 1)) (has_piece arrived j)
          (range_with_len 0 (pieces m)) (λ i. held_where messages h j m i g.pieces is
          ∙ sym (g.same j i)))
      | inr none ↦
          let none_there = none.0 in
          rw none_there (sym (first_missing (has_piece arrived j) (pieces m)
          (one_at_least (length m)) (g.same j 0 ∙ none.1 0)))
    ]
  where
    first_missing : (P : ℕ → Bool) (n : ℕ) → 0 < n → P 0 ≡ false
        → list_all P (range_with_len 0 n) ≡ false
    first_missing P zero some missing = absurd (omega arith)
    first_missing P (suc n) some missing = rw missing refl

-- the bytes of a place that is held are those that were cut from the message
bytes_where : (messages : List (List ℕ)) (h : List PieceView) (j : ℕ) (m : List ℕ) (i : ℕ)
    → AllByRecursion (IsPieceOf messages) h
    → slice_get messages j ≡ Some m →
    bytes_at h j (pieces m - 1) i ≡ (if is_held h j (pieces m - 1) i then Some (piece_bytes m i)
    else None)
bytes_where messages [] j m i all is = refl
bytes_where messages (x ∷ h) j m i all is =
    one_place (bytes_at h j (pieces m - 1) i) (is_at j (pieces m - 1) i x)
    (is_held h j (pieces m - 1) i) (used_bytes x) (piece_bytes m i)
    (bytes_where messages h j m i all.1 is)
    (λ here.
    let own : (x.message == j) ≡ true = grind (arith, nat_tests) in
    let place : x.piece ≡ i = grind (arith, nat_tests) in
    all.0.bytes ∙ ap (λ b. piece_bytes b x.piece) (message_of messages x j m all.0 is own)
    ∙ ap (piece_bytes m) place)
  where
    one_place : (o : Option (List ℕ)) (here held : Bool) (own bytes : List ℕ)
        → o ≡ (if held then Some bytes else None) → (here ≡ true → own ≡ bytes) →
        or_else o (if here then Some own else None) ≡ (if here || held then Some bytes else None)
    one_place o true true own bytes before now = rw before refl
    one_place o true false own bytes before now = rw before (ap Some (now refl))
    one_place o false true own bytes before now = rw before refl
    one_place o false false own bytes before now = rw before refl

joined_alike : (f g : ℕ → List ℕ) (P : ℕ → Bool) (xs : List ℕ) → ((i : ℕ) → P i ≡ true → f i ≡ g i)
    → list_all P xs ≡ true
    → flat_map f xs ≡ flat_map g xs
joined_alike f g P [] same all = refl
joined_alike f g P (x ∷ xs) same all = grind (arith, nat_tests, same x, joined_alike f g P xs same)

-- a message that is whole is the one that was cut
pub body_when : (messages : List (List ℕ)) (h : List PieceView) (arrived : List (ℕ × ℕ)) (j : ℕ)
    (m : List ℕ) →
    PiecesHold → HaveArrived messages h arrived → slice_get messages j ≡ Some m →
    is_whole h j ≡ true → body h j ≡ m
body_when messages h arrived j m hold g is whole =
    elim (last_known messages h j m g.pieces is) [
      | inl known ↦
          let count : pieces m - 1 + 1 ≡ pieces m = omega (arith, one_at_least (length m)) in
          let all = rw known at whole in
          rw known (joined_alike (λ i. unwrap_or (bytes_at h j (pieces m - 1) i) []) (piece_bytes m)
          (is_held h j (pieces m - 1)) (places_to (pieces m - 1))
          (λ i held. ap (λ o. unwrap_or o []) (bytes_where messages h j m i g.pieces is)
          ∙ rw held refl) all
          ∙ ap (λ n. flat_map (piece_bytes m) (range_with_len 0 n)) count
          ∙ hold m)
      | inr none ↦ (let none_there = none.0 in let never = rw none_there at whole in cc)
    ]

-- whether message j, which is m, is given, where these numbers were given
abbrev pub is_new : List ℕ → List (ℕ × ℕ) → List (ℕ × ℕ) → List ℕ → ℕ → Bool
is_new m before now numbers j = is_given messages_ahead (Some m) before now numbers j

-- the pieces that came give what is to be given
pub completes_when : (messages : List (List ℕ)) (h : List PieceView) (before now : List (ℕ × ℕ))
    (numbers : List ℕ) (x : PieceView) (m : List ℕ) →
    AreGenuine messages h before numbers → HaveArrived messages (x ∷ h) now
    → slice_get messages x.message ≡ Some m →
    completes h x ≡ is_new m before now numbers x.message
completes_when messages h before now numbers x m g come is =
    let j = x.message in
    let whole_now = whole_when messages (x ∷ h) now j m come is in
    let whole_before = whole_when messages h before j m g.come is in
    let later = g.come.later (j + messages_ahead) in
    let given = g.given j in
    ap (λ b. b && not (is_whole h j) && not (list.has_newer h (j + messages_ahead))
    && not (list_any (nat_lt j) (given_in h))) whole_now
    ∙ ap (λ b. has_all (Some m) now j && not b && not (list.has_newer h (j + messages_ahead))
    && not (list_any (nat_lt j) (given_in h))) whole_before
    ∙ ap (λ b. has_all (Some m) now j && not (has_all (Some m) before j) && not b
    && not (list_any (nat_lt j) (given_in h))) (sym later)
    ∙ ap (λ b. has_all (Some m) now j && not (has_all (Some m) before j)
    && not (has_later before (j + messages_ahead)) && not b) (sym given)

-- and the message that was cut
pub body_if : (messages : List (List ℕ)) (h : List PieceView) (now : List (ℕ × ℕ)) (x : PieceView)
    (m : List ℕ) → PiecesHold → HaveArrived messages (x ∷ h) now
    → slice_get messages x.message ≡ Some m → completes h x ≡ true → body (x ∷ h) x.message ≡ m
body_if messages h now x m hold come is done =
    body_when messages (x ∷ h) now x.message m hold come is
    (and_left (is_whole (x ∷ h) x.message) (not (is_whole h x.message))
    (not (list.has_newer h (x.message + messages_ahead)))
    (not (list_any (nat_lt x.message) (given_in h))) done)
  where
    and_left : (a b c d : Bool) → (a && b && c && d) ≡ true → a ≡ true
    and_left true b c d all = refl
    and_left false b c d all = all

-- the number of a message, if it is given
abbrev pub number_if : Bool → ℕ → List ℕ
number_if given j = if given then j ∷ [] else []

pub swapped : (a b c : Bool) → (a || (b || c)) ≡ (b || (a || c))
swapped true true c = refl
swapped true false c = refl
swapped false b c = refl

-- the numbers that were given count as a set
any_numbers : (f : ℕ → Bool) (xs ys : List ℕ)
    → list_any f (xs ++ ys) ≡ (list_any f ys || list_any f xs)
any_numbers f [] ys = or_false (list_any f ys) where
  or_false : (b : Bool) → b ≡ (b || false)
  or_false true = refl
  or_false false = refl
any_numbers f (x ∷ xs) ys =
    ap (λ b. f x || b) (any_numbers f xs ys) ∙ swapped (f x) (list_any f ys) (list_any f xs)

number_more : (f : ℕ → Bool) (numbers given : List ℕ) (j : ℕ) (b : Bool)
    → list_any f numbers ≡ list_any f given
    → list_any f (numbers ++ number_if b j) ≡ list_any f (if b then j ∷ given else given)
number_more f numbers given j true same =
    any_numbers f numbers (j ∷ []) ∙ only (f j) (list_any f numbers)
    ∙ ap (λ b. f j || b) same
  where
    only : (a b : Bool) → ((a || false) || b) ≡ (a || b)
    only true b = refl
    only false b = refl
number_more f numbers given j false same = ap (list_any f) (append-nil numbers) ∙ same

-- one piece more, and the message that it gives
pub one_genuine : (messages : List (List ℕ)) (h : List PieceView) (arrived : List (ℕ × ℕ))
    (numbers : List ℕ) (x : PieceView) (m : List ℕ) → AreGenuine messages h arrived numbers
    → IsPieceOf messages x → slice_get messages x.message ≡ Some m
    → (let now = (x.message, x.piece) ∷ arrived in
    AreGenuine messages (x ∷ h) now
    (numbers ++ number_if (is_new m arrived now numbers x.message) x.message))
one_genuine messages h arrived numbers x m g p is =
    let now = (x.message, x.piece) ∷ arrived in
    let come = one_more messages h arrived x g.come p in
    let done = completes_when messages h arrived now numbers x m g come is in
    record {
      come = come;
      given = λ k. ap (λ b. list_any (nat_lt k) (numbers ++ number_if b x.message)) (sym done)
          ∙ number_more (nat_lt k) numbers (given_in h) x.message (completes h x) (g.given k);
    }
