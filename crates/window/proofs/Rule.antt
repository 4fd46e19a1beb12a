-- What one more piece does to the places of the messages.
use Rattle.std.proofs.Common.{◌≡◌, ℕ, ◌+◌, ◌<◌, ◌≤◌, List, [], ◌∷◌, ◌||◌, length, get_or, set, map, Bool, true, false, Option, Some, None, is_some, refl, sym, ◌∙◌, ap, ◌⊎◌, inl, inr, arith}
use Rattle.std.specs.Prelude.{◌==◌, not, unwrap_or, if◌then◌else◌}
use Rattle.std.specs.List.{list_all}
use Rattle.std.proofs.lemmas.Bool.Decides.{nat_tests}
use Rattle.std.proofs.lemmas.List.{get_or-replicate, length-replicate}
use Rattle.std.proofs.lemmas.List.Folds.{list_all-map, flat_map-map}
use Rattle.std.proofs.lemmas.List.FromFn.{get_or-map-range_with_len, length-map-range_with_len}
use Rattle.frame.specs.Pieces.{PieceView, used_bytes}
use Rattle.frame_pool.specs.Pools.{joined}
use Rattle.window.specs.ListRule.{or_else, last_of, is_at, is_held, is_whole, is_whole_to, has_newer, bytes_at, places_to, places_held, places_held_to, body, body_to}
use Rattle.window.specs.inside.Places.{nothing_held, has_room_for, with_piece, put_in, or_new, after_piece, is_full}
use Rattle.window.proofs.Filling.{same_map, map_set, all_none}

pub bool_cases : (b : Bool) → (b ≡ true) ⊎ (b ≡ false)
bool_cases true = inl refl
bool_cases false = inr refl

-- a piece of a message older than j, whose pieces have come
pub later_than : (h : List PieceView) (j k : ℕ) → is_some (last_of h j) ≡ true → k < j → has_newer h k ≡ true
later_than [] j k some lt = cc
later_than (x ∷ h) j k some lt =
    elim (bool_cases (x.message == j)) [
      | inl own ↦ grind (arith, nat_tests)
      | inr other ↦ grind (arith, nat_tests, other_some (last_of h j), later_than h j k)
    ]
  where
    other_some : (o : Option ℕ) → is_some (or_else o None) ≡ is_some o
    other_some None = refl
    other_some (Some l) = refl

-- no piece of a message later than all
pub none_later : (h : List PieceView) (j k : ℕ) → has_newer h j ≡ false → j < k → last_of h k ≡ None
none_later [] j k none lt = refl
none_later (x ∷ h) j k none lt =
    let more : has_newer h j ≡ false = grind (arith, nat_tests) in
    let rest = none_later h j k more lt in
    let own : (x.message == k) ≡ false = grind (arith, nat_tests) in
    rw (rest, own) refl

-- of a message with no piece nothing is held
no_bytes : (h : List PieceView) (j last i : ℕ) → last_of h j ≡ None → bytes_at h j last i ≡ None
no_bytes [] j last i none = refl
no_bytes (x ∷ h) j last i none =
    elim (bool_cases (x.message == j)) [
      | inl own ↦ grind (arith, nat_tests)
      | inr other ↦ grind (arith, nat_tests, no_bytes h j last i)
    ]

-- a place is held where it has bytes
held_bytes : (h : List PieceView) (j last i : ℕ) → is_some (bytes_at h j last i) ≡ is_held h j last i
held_bytes [] j last i = refl
held_bytes (x ∷ h) j last i = held_more (bytes_at h j last i) (is_at j last i x) (held_bytes h j last i) where
  held_more : (o : Option (List ℕ)) (b : Bool) → is_some o ≡ is_held h j last i
      → is_some (or_else o (if b then Some (used_bytes x) else None)) ≡ (b || is_held h j last i)
  held_more None true is = refl
  held_more None false is = is
  held_more (Some c) true is = refl
  held_more (Some c) false is = is

all_alike : (P Q : ℕ → Bool) (xs : List ℕ) → ((i : ℕ) → P i ≡ Q i) → list_all P xs ≡ list_all Q xs
all_alike P Q [] same = refl
all_alike P Q (x ∷ xs) same = grind (arith, same x, all_alike P Q xs same)

same_or : {A : Type 0} (o : Option A) → or_else o None ≡ o
same_or None = refl
same_or (Some a) = refl

pub full_some : (ps : List (Option (List ℕ))) → 0 < length ps → is_full ps ≡ list_all is_some ps
full_some [] some = absurd (omega (arith, some))
full_some (p ∷ ps) some = refl

pub new_some : (ps : List (Option (List ℕ))) (last : ℕ) → 0 < length ps → or_new ps last ≡ ps
new_some [] last some = absurd (omega (arith, some))
new_some (p ∷ ps) last some = refl

length_to : (f : ℕ → Option (List ℕ)) (last : ℕ) → length (map f (places_to last)) ≡ last + 1
length_to f last = length-map-range_with_len f 0 (last + 1)

place_to : (f : ℕ → Option (List ℕ)) (last k : ℕ) → k ≤ last → get_or (map f (places_to last)) k None ≡ f k
place_to f last k le = get_or-map-range_with_len f 0 (last + 1) k k None (omega arith) (omega arith)

-- a message is whole where its places are full
pub whole_full : (h : List PieceView) (j : ℕ) → is_whole h j ≡ is_full (places_held h j)
whole_full h j = by_last (last_of h j) where
  by_last : (o : Option ℕ) → is_whole_to h j o ≡ is_full (places_held_to h j o)
  by_last None = refl
  by_last (Some last) =
      let n = length_to (bytes_at h j last) last in
      sym (full_some (map (bytes_at h j last) (places_to last)) (omega arith)
      ∙ list_all-map is_some (bytes_at h j last) (places_to last)
      ∙ all_alike (λ i. is_some (bytes_at h j last i)) (is_held h j last) (places_to last) (held_bytes h j last))

-- the body is the bytes of the places
pub body_joined : (h : List PieceView) (j : ℕ) → body h j ≡ joined (places_held h j)
body_joined h j = by_last (last_of h j) where
  by_last : (o : Option ℕ) → body_to h j o ≡ joined (places_held_to h j o)
  by_last None = refl
  by_last (Some last) =
      sym (flat_map-map (λ (bytes : Option (List ℕ)). unwrap_or bytes []) (bytes_at h j last) (places_to last))

-- a piece at another place gives no bytes here
elsewhere_same : (h : List PieceView) (x : PieceView) (j last k : ℕ) → is_at j last k x ≡ false
    → bytes_at (x ∷ h) j last k ≡ bytes_at h j last k
elsewhere_same h x j last k other = rw other (same_or (bytes_at h j last k))

-- a piece changes nothing of the other messages
pub places_other : (h : List PieceView) (x : PieceView) (j : ℕ) → (x.message == j) ≡ false
    → places_held (x ∷ h) j ≡ places_held h j
places_other h x j other =
    let last : last_of (x ∷ h) j ≡ last_of h j = rw other (same_or (last_of h j)) in
    ap (places_held_to (x ∷ h) j) last ∙ by_last (last_of h j)
  where
    by_last : (o : Option ℕ) → places_held_to (x ∷ h) j o ≡ places_held_to h j o
    by_last None = refl
    by_last (Some last) =
        same_map (bytes_at (x ∷ h) j last) (bytes_at h j last) 0 (last + 1) (λ k lo hi.
        elsewhere_same h x j last k (rw other refl))

not_some : (o : Option (List ℕ)) → not (is_some o) ≡ true → o ≡ None
not_some None h = refl
not_some (Some b) h = cc

some_not : (o : Option (List ℕ)) (own : Option (List ℕ)) → is_some o ≡ true → or_else o own ≡ o
some_not None own h = cc
some_not (Some b) own h = refl

-- the first piece of a message begins its places
first_place : (h : List PieceView) (x : PieceView) → x.piece ≤ x.last → last_of h x.message ≡ None
    → map (bytes_at (x ∷ h) x.message x.last) (places_to x.last) ≡ with_piece (nothing_held x.last) x
first_place h x within none =
    sym (
    ap (λ (places : List (Option (List ℕ))). set places x.piece (Some (used_bytes x)))
    (sym (all_none (λ i. None) 0 (x.last + 1) (λ k lo hi. refl)))
    ∙ map_set (bytes_at (x ∷ h) x.message x.last) (λ i. None) 0 (x.last + 1) x.piece (Some (used_bytes x))
    (omega arith)
    (let b = no_bytes h x.message x.last x.piece none in grind (arith, nat_tests, b))
    (λ k lo hi ne. let b = no_bytes h x.message x.last k none in grind (arith, nat_tests, b)))

new_room : (x : PieceView) → x.piece ≤ x.last → has_room_for (nothing_held x.last) x ≡ true
new_room x within =
    let n : length (nothing_held x.last) ≡ x.last + 1 = length-replicate (x.last + 1) None in
    let free : get_or (nothing_held x.last) x.piece None ≡ None =
    get_or-replicate (x.last + 1) x.piece None None (omega arith) in
    grind (arith, nat_tests, n, free)

-- a piece that has room joins the places
more_places : (h : List PieceView) (x : PieceView) (last : ℕ) → x.piece ≤ x.last
    → has_room_for (map (bytes_at h x.message last) (places_to last)) x ≡ true
    → map (bytes_at (x ∷ h) x.message last) (places_to last)
    ≡ with_piece (map (bytes_at h x.message last) (places_to last)) x
more_places h x last within room =
    let places = map (bytes_at h x.message last) (places_to last) in
    let n = length_to (bytes_at h x.message last) last in
    let end : x.last ≡ last = grind (arith, nat_tests, n, room) in
    let free : get_or places x.piece None ≡ None = not_some (get_or places x.piece None)
    (grind (arith, nat_tests, room)) in
    let none : bytes_at h x.message last x.piece ≡ None =
    sym (place_to (bytes_at h x.message last) last x.piece (omega arith)) ∙ free in
    let here : is_at x.message last x.piece x ≡ true = grind (arith, nat_tests) in
    sym (map_set (bytes_at (x ∷ h) x.message last) (bytes_at h x.message last) 0 (last + 1) x.piece
    (Some (used_bytes x)) (omega arith)
    (let e : 0 + x.piece ≡ x.piece =
    omega arith in ap (bytes_at (x ∷ h) x.message last) e ∙ rw (none, here) refl)
    (λ k lo hi ne. sym (elsewhere_same h x x.message last k (grind (arith, nat_tests)))))

-- one that has no room changes nothing
same_places : (h : List PieceView) (x : PieceView) (last : ℕ) → x.piece ≤ x.last
    → has_room_for (map (bytes_at h x.message last) (places_to last)) x ≡ false
    → map (bytes_at (x ∷ h) x.message last) (places_to last) ≡ map (bytes_at h x.message last) (places_to last)
same_places h x last within no_room =
    let places = map (bytes_at h x.message last) (places_to last) in
    let n = length_to (bytes_at h x.message last) last in
    same_map (bytes_at (x ∷ h) x.message last) (bytes_at h x.message last) 0 (last + 1) (λ k lo hi.
    elim (bool_cases (is_at x.message last k x)) [
      | inl here ↦
          let there = place_to (bytes_at h x.message last) last k (omega arith) in
          let place : x.piece ≡ k = grind (arith, nat_tests) in
          let end : x.last ≡ last = grind (arith, nat_tests) in
          let full : is_some (get_or places x.piece None) ≡ true = grind (arith, nat_tests, n, no_room, end) in
          let full' : is_some (bytes_at h x.message last k) ≡ true =
          sym (ap is_some (ap (λ i. get_or places i None) place ∙ there)) ∙ full in
          some_not (bytes_at h x.message last k) (if is_at x.message last k x then Some (used_bytes x) else None) full'
      | inr other ↦ elsewhere_same h x x.message last k other
    ])

-- what a piece does to the places of its message
pub places_own : (h : List PieceView) (x : PieceView) → x.piece ≤ x.last
    → places_held (x ∷ h) x.message ≡ after_piece (places_held h x.message) x
places_own h x within = by_last (last_of h x.message) refl where
  own : (x.message == x.message) ≡ true
  own = grind (arith, nat_tests)

  by_last : (o : Option ℕ) → last_of h x.message ≡ o
      → places_held_to (x ∷ h) x.message (last_of (x ∷ h) x.message) ≡ after_piece (places_held_to h x.message o) x
  by_last None is =
      let last : last_of (x ∷ h) x.message ≡ Some x.last = rw (is, own) refl in
      let room = new_room x within in
      rw (last, room) (first_place h x within is)
  by_last (Some last) is =
      let places = map (bytes_at h x.message last) (places_to last) in
      let n = length_to (bytes_at h x.message last) last in
      let now : last_of (x ∷ h) x.message ≡ Some last = rw is refl in
      let old : or_new places x.last ≡ places = new_some places x.last (omega arith) in
      ap (places_held_to (x ∷ h) x.message) now ∙
      elim (bool_cases (has_room_for places x)) [
        | inl room ↦ more_places h x last within room ∙ sym (ap (λ ps. put_in ps x) old ∙ rw room refl)
        | inr none ↦ same_places h x last within none ∙ sym (ap (λ ps. put_in ps x) old ∙ rw none refl)
      ]
