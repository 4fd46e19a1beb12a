-- The quarters of an owner's places.
use Rattle.std.proofs.Common.{◌≡◌, ◌≢◌, ℕ, suc, ◌+◌, ◌-◌, ◌*◌, ◌<◌, ◌≤◌, List, [], ◌∷◌, ◌++◌, length, take, drop, map, get_or, set, replicate, Bool, true, false, Option, Some, None, is_some, refl, sym, ◌∙◌, ap, subst, ◌⊎◌, inl, inr, arith, get_or-set_other, get_or-set_same}
use Rattle.std.specs.Prelude.{◌==◌, ◌%◌, nat_lt, if◌then◌else◌}
use Rattle.std.specs.List.{range_with_len}
use Rattle.std.proofs.lemmas.Bool.Decides.{nat_tests}
use Rattle.std.proofs.lemmas.Nat.{mod_below}
use Rattle.std.proofs.lemmas.List.{get_or-replicate, length-replicate, get_or-take, get_or-drop, length-take}
use Rattle.std.proofs.Math.ListN.{get_or-append}
use Rattle.std.proofs.Math.Seq.{get_or-append_right}
use Rattle.std.proofs.lemmas.List.FromFn.{get_or-map-range_with_len, length-map-range_with_len}
use Rattle.frame.specs.Pieces.{PieceView, IsPiece, used_bytes}
use Rattle.frame_pool.specs.Pools.{without}
use Rattle.window.specs.Windows as windows
use Rattle.window.specs.inside.Places.{nothing_held, has_room_for, with_piece, empty_count}
use Rattle.window.specs.inside.Quarters.{cut, size_at, place_in, places_in, is_of, held_in, quarter_of, held_by, messages_from, IsWide, Fits, FitsIn, FitIn}
use Rattle.window.specs.declared.heads.Head.{Head}
use Rattle.window.proofs.Filling.{same_map, map_set, all_none, empty_none, empty_set}
use Rattle.window.proofs.Rule.{bool_cases}

-- ---- blocks that are given back, and a block that is put

-- so many empty places
abbrev pub nothing : ℕ → List (Option (List ℕ))
nothing n = replicate n None

nat_cases : (n m : ℕ) → (n ≡ m) ⊎ (n ≢ m)
nat_cases n m = grind arith

pub length-nones : (n : ℕ) → length (nothing n) ≡ n
length-nones n = let none : Option (List ℕ) = None in length-replicate n none

-- within the first places and behind them nothing is given back
without_before : (blocks : List (Option (List ℕ))) (first count i : ℕ) → first ≤ length blocks → i < first
    → get_or (without blocks first count) i None ≡ get_or blocks i None
without_before blocks first count i long lt =
    get_or-append (take first blocks) (replicate count None ++ drop (first + count) blocks) None i
    (omega (arith, length-take first blocks))
    ∙ get_or-take first blocks i None lt

without_here : (blocks : List (Option (List ℕ))) (first count i : ℕ) → first ≤ length blocks → first ≤ i
    → i < first + count → get_or (without blocks first count) i None ≡ None
without_here blocks first count i long le lt =
    let front : length (take first blocks) ≡ first = omega (arith, length-take first blocks) in
    let none : length (nothing count) ≡ count = length-nones count in
    get_or-append_right (take first blocks) (nothing count ++ drop (first + count) blocks) i None (omega arith)
    ∙ get_or-append (nothing count) (drop (first + count) blocks) None (i - length (take first blocks))
    (omega arith)
    ∙ get_or-replicate count (i - length (take first blocks)) None None (omega arith)

without_after : (blocks : List (Option (List ℕ))) (first count i : ℕ) → first ≤ length blocks → first + count ≤ i
    → get_or (without blocks first count) i None ≡ get_or blocks i None
without_after blocks first count i long le =
    let front : length (take first blocks) ≡ first = omega (arith, length-take first blocks) in
    let none : length (nothing count) ≡ count = length-nones count in
    let e : first + count + (i - length (take first blocks) - length (nothing count)) ≡ i = omega arith in
    get_or-append_right (take first blocks) (nothing count ++ drop (first + count) blocks) i None (omega arith)
    ∙ get_or-append_right (nothing count) (drop (first + count) blocks) (i - length (take first blocks)) None
    (omega arith)
    ∙ get_or-drop (first + count) blocks (i - length (take first blocks) - length (nothing count)) None
    ∙ ap (λ k. get_or blocks k None) e

-- a quarter that is given back is empty
pub quarter_cleared : (blocks : List (Option (List ℕ))) (k i : ℕ) → length blocks ≡ 256 → k < 4 → i < 64
    → quarter_of (without blocks (64 * k) 64) k i ≡ None
quarter_cleared blocks k i long small lt =
    without_here blocks (64 * k) 64 (64 * k + i) (omega arith) (omega arith) (omega arith)

side : (k i : ℕ) → k ≢ i → (k < i) ⊎ (i < k)
side k i ne = grind arith

-- the other quarters are as they were
pub quarter_kept : (blocks : List (Option (List ℕ))) (k other i : ℕ) → length blocks ≡ 256 → k < 4 → other ≢ k → i < 64
    → quarter_of (without blocks (64 * k) 64) other i ≡ quarter_of blocks other i
quarter_kept blocks k other i long small ne lt =
    elim (side other k ne) [
      | inl below ↦ without_before blocks (64 * k) 64 (64 * other + i) (omega arith) (omega arith)
      | inr above ↦ without_after blocks (64 * k) 64 (64 * other + i) (omega arith) (omega arith)
    ]

pub quarter_set : (blocks : List (Option (List ℕ))) (k place other i : ℕ) (v : Option (List ℕ)) → place < 64 → i < 64
    → other ≢ k → quarter_of (set blocks (64 * k + place) v) other i ≡ quarter_of blocks other i
quarter_set blocks k place other i v small lt ne =
    get_or-set_other blocks (64 * k + place) (64 * other + i) v None
    (λ same. elim (side other k ne)
    [ inl below ↦ omega (arith, same, below) | inr above ↦ omega (arith, same, above) ])

-- ---- one quarter that changes

same_places : (head : Head) (f g : ℕ → Option (List ℕ)) → head.last ≤ 63 → ((i : ℕ) → i < 64 → f i ≡ g i)
    → places_in head f ≡ places_in head g
same_places head f g last same =
    same_map (place_in head f) (place_in head g) 0 (head.last + 1) (λ k lo hi.
    ap (cut (size_at head k)) (same k (omega arith)))

same_fit : (k : ℕ) (o : Option Head) (f g : ℕ → Option (List ℕ)) → ((i : ℕ) → i < 64 → f i ≡ g i) → FitsIn k o f
    → FitsIn k o g
same_fit k None f g same fit = λ i lt. sym (same i lt) ∙ fit i lt
same_fit k (Some head) f g same fit = record {
  own = fit.own;
  last = fit.last;
  tail = fit.tail;
  missing = fit.missing ∙ ap empty_count (same_places head f g fit.last same);
  wide = λ i le. subst IsWide (same i (omega (arith, le, fit.last))) (fit.wide i le);
  rest = λ i lt le. sym (same i le) ∙ fit.rest i lt le;
}

same_held : (k : ℕ) (o : Option Head) (f g : ℕ → Option (List ℕ)) (j : ℕ) → ((i : ℕ) → i < 64 → f i ≡ g i)
    → FitsIn k o f → held_in o f j ≡ held_in o g j
same_held k None f g j same fit = refl
same_held k (Some head) f g j same fit =
    ap (λ (ps : List (Option (List ℕ))). if head.message == j then ps else []) (same_places head f g fit.last same)

-- the blocks of the other quarters are the same
abbrev pub SameBut : ℕ → List (Option (List ℕ)) → List (Option (List ℕ)) → Type 0
SameBut k blocks after = (other i : ℕ) → other ≢ k → i < 64 → quarter_of after other i ≡ quarter_of blocks other i

pub replaced_fit : (heads : List (Option Head)) (blocks after : List (Option (List ℕ))) (k : ℕ) (o : Option Head)
    → length heads ≡ 4 → k < 4 → SameBut k blocks after → FitsIn k o (quarter_of after k) → FitIn heads blocks
    → FitIn (set heads k o) after
replaced_fit heads blocks after k o long small same fits fit q lt =
    elim (nat_cases q k) [
      | inl is ↦
          let here : get_or (set heads k o) q None ≡ o =
          ap (λ n. get_or (set heads k o) n None) is ∙ get_or-set_same heads k o None (omega arith) in
          subst (λ (p : Option Head). FitsIn q p (quarter_of after q)) (sym here)
          (subst (λ (n : ℕ). FitsIn n o (quarter_of after n)) (sym is) fits)
      | inr ne ↦
          subst (λ (p : Option Head). FitsIn q p (quarter_of after q)) (sym (get_or-set_other heads k q o None ne))
          (same_fit q (get_or heads q None) (quarter_of blocks q) (quarter_of after q)
          (λ i le. sym (same q i ne le)) (fit q lt))
    ]

-- of each message what is held where one quarter changed
pub replaced_held : (heads : List (Option Head)) (blocks after : List (Option (List ℕ))) (k : ℕ) (o : Option Head)
    → length heads ≡ 4 → k < 4 → SameBut k blocks after → FitIn heads blocks
    → (j : ℕ)
    → held_by (set heads k o) after j ≡
    (if j % 4 == k then held_in o (quarter_of after k) j else held_by heads blocks j)
replaced_held heads blocks after k o long small same fit j =
    elim (bool_cases (j % 4 == k)) [
      | inl here ↦
          let is : j % 4 ≡ k = grind (arith, nat_tests, here) in
          ap (λ n. held_in (get_or (set heads k o) n None) (quarter_of after n) j) is
          ∙ ap (λ (p : Option Head). held_in p (quarter_of after k) j) (get_or-set_same heads k o None (omega arith))
          ∙ sym (rw here refl)
      | inr there ↦
          let ne : j % 4 ≢ k = λ is. (let t : (j % 4 == k) ≡ true = grind (arith, nat_tests, is) in cc) in
          ap (λ (p : Option Head). held_in p (quarter_of after (j % 4)) j) (get_or-set_other heads k (j % 4) o None ne)
          ∙ sym (same_held (j % 4) (get_or heads (j % 4) None) (quarter_of blocks (j % 4)) (quarter_of after (j % 4)) j
          (λ i le. sym (same (j % 4) i ne le)) (fit (j % 4) (mod_below j 4 (omega arith))))
          ∙ sym (rw there refl)
    ]

-- ---- a message that begins

pub fresh_places : (head : Head) (f : ℕ → Option (List ℕ)) → head.last ≤ 63 → ((i : ℕ) → i < 64 → f i ≡ None)
    → places_in head f ≡ nothing_held head.last
fresh_places head f last none =
    all_none (place_in head f) 0 (head.last + 1) (λ k lo hi. ap (cut (size_at head k)) (none k (omega arith)))

pub fresh_fits : (head : Head) (f : ℕ → Option (List ℕ)) → head.last ≤ 63 → head.tail ≤ 88
    → head.missing ≡ head.last + 1 → ((i : ℕ) → i < 64 → f i ≡ None) → Fits (head.message % 4) head f
fresh_fits head f last tail missing none = record {
  own = refl;
  last = last;
  tail = tail;
  missing = missing ∙ sym (ap empty_count (fresh_places head f last none) ∙ empty_none (head.last + 1));
  wide = λ i le. subst IsWide (sym (none i (omega (arith, le, last)))) tt;
  rest = λ i lt le. none i le;
}

-- ---- a piece that is put

pub some_cut : (n : ℕ) (o : Option (List ℕ)) → is_some (cut n o) ≡ is_some o
some_cut n None = refl
some_cut n (Some b) = refl

none_of : (o : Option (List ℕ)) → is_some o ≡ false → o ≡ None
none_of None is = refl
none_of (Some b) is = cc

pub length_places : (head : Head) (f : ℕ → Option (List ℕ)) → length (places_in head f) ≡ head.last + 1
length_places head f = length-map-range_with_len (place_in head f) 0 (head.last + 1)

pub get_place : (head : Head) (f : ℕ → Option (List ℕ)) (i : ℕ) → i ≤ head.last
    → get_or (places_in head f) i None ≡ place_in head f i
get_place head f i le =
    get_or-map-range_with_len (place_in head f) 0 (head.last + 1) i i None (omega arith) (omega arith)

-- a piece of this message is put into its place of the quarter
pub record Putting (head now : Head) (f g : ℕ → Option (List ℕ)) (x : PieceView) : Type 0 where
  pub is_piece : IsPiece x
  pub ending : head.last ≡ x.last
  pub free : is_some (f x.piece) ≡ false
  pub message : now.message ≡ head.message
  pub same_last : now.last ≡ head.last
  pub last_size : now.tail ≡ (if x.piece == head.last then x.used else head.tail)
  pub fewer : now.missing ≡ head.missing - 1
  pub here : g x.piece ≡ Some x.payload
  pub others : (i : ℕ) → i ≢ x.piece → i < 64 → g i ≡ f i

pub has_room : (head now : Head) (f g : ℕ → Option (List ℕ)) (x : PieceView) → Putting head now f g x
    → has_room_for (places_in head f) x ≡ true
has_room head now f g x p =
    let n = length_places head f in
    let ending = p.ending in
    let place = get_place head f x.piece (omega (arith, p.is_piece.within, ending)) in
    let free : is_some (get_or (places_in head f) x.piece None) ≡ false =
    ap is_some place ∙ some_cut (size_at head x.piece) (f x.piece) ∙ p.free in
    grind (arith, nat_tests, n, free, ending)

used_here : (now : Head) (x : PieceView) (b : Bool) (t : ℕ) → IsPiece x → x.last ≡ now.last → (x.piece == now.last) ≡ b
    → t ≡ (if b then x.used else 88) → take t x.payload ≡ used_bytes x
used_here now x true t ok last is size = ap (λ n. take n x.payload) size
used_here now x false t ok last is size =
    let full = ok.full (grind (arith, nat_tests, is, last, ok.within)) in
    ap (λ n. take n x.payload) (size ∙ sym full)

-- the places with the piece
pub places_put : (head now : Head) (f g : ℕ → Option (List ℕ)) (x : PieceView) → Putting head now f g x
    → places_in now g ≡ with_piece (places_in head f) x
places_put head now f g x p =
    let ending = p.ending in
    let last = p.same_last in
    let within = p.is_piece.within in
    let small = p.is_piece.last in
    let e : 0 + x.piece ≡ x.piece = omega arith in
    ap (λ n. map (place_in now g) (range_with_len 0 (n + 1))) last
    ∙ sym (map_set (place_in now g) (place_in head f) 0 (head.last + 1) x.piece (Some (used_bytes x)) (omega arith)
    (ap (place_in now g) e ∙ ap (cut (size_at now x.piece)) p.here
    ∙ ap Some (own_bytes (x.piece == head.last) refl))
    (λ k lo hi ne.
    let apart : k ≢ x.piece = λ same. ne (same ∙ sym e) in
    ap (cut (size_at head k)) (sym (p.others k apart (omega arith)))
    ∙ ap (λ n. cut n (g k)) (sym (other_size k apart (k == head.last) refl))))
  where
    by_end : (b : Bool) → now.tail ≡ (if b then x.used else head.tail)
        → (if b then now.tail else 88) ≡ (if b then x.used else 88)
    by_end true tail = tail
    by_end false tail = refl

    own_bytes : (b : Bool) → (x.piece == head.last) ≡ b → take (size_at now x.piece) x.payload ≡ used_bytes x
    own_bytes b is =
        let ending = p.ending in
        let same : (x.piece == now.last) ≡ b = ap (λ n. x.piece == n) p.same_last ∙ is in
        let tail : now.tail ≡ (if b then x.used else head.tail) =
        p.last_size ∙ ap (λ (c : Bool). if c then x.used else head.tail) is in
        used_here now x b (size_at now x.piece) p.is_piece (sym ending ∙ sym p.same_last) same
        (ap (λ (c : Bool). if c then now.tail else 88) same ∙ by_end b tail)

    other_size : (k : ℕ) → k ≢ x.piece → (b : Bool) → (k == head.last) ≡ b → size_at now k ≡ size_at head k
    other_size k apart b is =
        ap (λ n. if k == n then now.tail else 88) p.same_last
        ∙ ap (λ (c : Bool). if c then now.tail else 88) is
        ∙ same_size b is
        ∙ sym (ap (λ (c : Bool). if c then head.tail else 88) is)
      where
        same_size : (b : Bool) → (k == head.last) ≡ b → (if b then now.tail else 88) ≡ (if b then head.tail else 88)
        same_size true is =
            let elsewhere : (x.piece == head.last) ≡ false = grind (arith, nat_tests, is, apart) in
            p.last_size ∙ ap (λ (c : Bool). if c then x.used else head.tail) elsewhere
        same_size false is = refl

-- one place less is empty
pub missing_put : (k : ℕ) (head now : Head) (f g : ℕ → Option (List ℕ)) (x : PieceView) → Putting head now f g x
    → Fits k head f → empty_count (with_piece (places_in head f) x) + 1 ≡ head.missing
missing_put k head now f g x p fit =
    let within : x.piece ≤ head.last = omega (arith, p.is_piece.within, p.ending) in
    let n = length_places head f in
    let none : get_or (places_in head f) x.piece None ≡ None =
    get_place head f x.piece within ∙ ap (cut (size_at head x.piece)) (none_of (f x.piece) p.free) in
    empty_set (places_in head f) x.piece (used_bytes x) (omega (arith, n, within)) none ∙ sym fit.missing

pub put_fits : (k : ℕ) (head now : Head) (f g : ℕ → Option (List ℕ)) (x : PieceView) → Putting head now f g x
    → Fits k head f → Fits k now g
put_fits k head now f g x p fit =
    let less = missing_put k head now f g x p fit in
    let count = ap empty_count (places_put head now f g x p) in
    let within : x.piece ≤ head.last = omega (arith, p.is_piece.within, p.ending) in
    record {
      own = ap (λ n. n % 4) p.message ∙ fit.own;
      last = omega (arith, p.same_last, fit.last);
      tail = short (x.piece == head.last) p.last_size;
      missing = omega (arith, p.fewer, count, less);
      wide = λ i le. wide i (omega (arith, le, p.same_last)) (nat_cases i x.piece);
      rest = λ i lt le. p.others i (λ same. omega (arith, same, within, lt, p.same_last)) le
          ∙ fit.rest i (omega (arith, lt, p.same_last)) le;
    }
  where
    short : (b : Bool) → now.tail ≡ (if b then x.used else head.tail) → now.tail ≤ 88
    short true size = omega (arith, size, p.is_piece.used)
    short false size = omega (arith, size, fit.tail)

    wide : (i : ℕ) → i ≤ head.last → (i ≡ x.piece) ⊎ (i ≢ x.piece) → IsWide (g i)
    wide i le (inl same) = subst IsWide (sym (ap g same ∙ p.here)) p.is_piece.wide
    wide i le (inr apart) = subst IsWide (sym (p.others i apart (omega (arith, le, fit.last)))) (fit.wide i le)

-- ---- the messages that are held

pub not_held : (o : Option Head) (f : ℕ → Option (List ℕ)) (j : ℕ) → is_of j o ≡ false → held_in o f j ≡ []
not_held None f j other = refl
not_held (Some head) f j other = rw other refl

-- the places of a message in a quarter of its own
pub own_held : (head : Head) (f : ℕ → Option (List ℕ)) (j : ℕ) → head.message ≡ j
    → held_in (Some head) f j ≡ places_in head f
own_held head f j is =
    let own : (head.message == j) ≡ true = grind (arith, nat_tests, is) in
    rw own refl

-- each quarter has messages of its own
abbrev pub AreOwn : ℕ → List (Option Head) → Type 0
AreOwn k heads = (i : ℕ) (head : Head) → get_or heads i None ≡ Some head → head.message % 4 ≡ k + i

behind : {A : Type 0} (x : A) (xs : List A) (n m : ℕ) (d : A) → n ≡ suc m → get_or (x ∷ xs) n d ≡ get_or xs m d
behind x xs n m d is = ap (λ k. get_or (x ∷ xs) k d) is

-- of message j, from the quarter k on
abbrev pub held_from : ℕ → List (Option Head) → List (Option (List ℕ)) → ℕ → List (Option (List ℕ))
held_from k heads blocks j =
    if nat_lt (j % 4) k then [] else held_in (get_or heads (j % 4 - k) None) (quarter_of blocks (j % 4)) j

order : (n k : ℕ) → nat_lt n k ≡ false → n ≢ k → k < n
order n k above ne = grind (arith, nat_tests, above, ne)

-- where the first quarter has nothing of it
later_quarters : (o : Option Head) (heads : List (Option Head)) (blocks : List (Option (List ℕ))) (k j : ℕ)
    → is_of j o ≡ false → held_from (k + 1) heads blocks j ≡ held_from k (o ∷ heads) blocks j
later_quarters o heads blocks k j other =
    let f = quarter_of blocks (j % 4) in
    elim (bool_cases (nat_lt (j % 4) k)) [
      | inl below ↦
          let lower : nat_lt (j % 4) (k + 1) ≡ true = grind (arith, nat_tests, below) in
          rw (below, lower) refl
      | inr above ↦
          elim (nat_cases (j % 4) k) [
            | inl is ↦
                let lower : nat_lt (j % 4) (k + 1) ≡ true = grind (arith, nat_tests, is) in
                let zeroth : j % 4 - k ≡ 0 = omega (arith, is) in
                rw (lower, above) (sym
                (ap (λ n. held_in (get_or (o ∷ heads) n None) f j) zeroth ∙ not_held o f j other))
            | inr ne ↦
                let higher : nat_lt (j % 4) (k + 1) ≡ false = grind (arith, nat_tests, above, ne) in
                let step : j % 4 - k ≡ suc (j % 4 - (k + 1)) = omega (arith, order (j % 4) k above ne) in
                rw (higher, above) (sym (ap (λ (q : Option Head). held_in q f j)
                (behind o heads (j % 4 - k) (j % 4 - (k + 1)) None step)))
          ]
    ]

first_quarter : (head : Head) (heads : List (Option Head)) (blocks : List (Option (List ℕ))) (k j : ℕ)
    → head.message % 4 ≡ k → (head.message == j) ≡ true
    → places_in head (quarter_of blocks k) ≡ held_from k (Some head ∷ heads) blocks j
first_quarter head heads blocks k j own is =
    let same : head.message ≡ j = grind (arith, nat_tests, is) in
    let here : j % 4 ≡ k = sym (ap (λ n. n % 4) same) ∙ own in
    let above : nat_lt (j % 4) k ≡ false = grind (arith, nat_tests, here) in
    let zeroth : j % 4 - k ≡ 0 = omega (arith, here) in
    rw above (sym (
    ap (λ n. held_in (get_or (Some head ∷ heads) n None) (quarter_of blocks (j % 4)) j) zeroth
    ∙ own_held head (quarter_of blocks (j % 4)) j same
    ∙ ap (λ n. places_in head (quarter_of blocks n)) here))

-- the messages that are held, as contracts see them
pub places_messages : (heads : List (Option Head)) (blocks : List (Option (List ℕ))) (k j : ℕ) → AreOwn k heads
    → windows.places_of (messages_from k heads blocks) j ≡ held_from k heads blocks j
places_messages [] blocks k j own = if_same (nat_lt (j % 4) k) where
  if_same : (b : Bool) → [] ≡ (if b then [] else held_in None (quarter_of blocks (j % 4)) j)
  if_same true = refl
  if_same false = refl
places_messages (None ∷ heads) blocks k j own =
    places_messages heads blocks (k + 1) j (λ i head is. own (suc i) head is ∙ omega arith)
    ∙ later_quarters None heads blocks k j refl
places_messages (Some head ∷ heads) blocks k j own =
    let rest = places_messages heads blocks (k + 1) j (λ i h is. own (suc i) h is ∙ omega arith) in
    let own_quarter : head.message % 4 ≡ k = own 0 head refl ∙ omega arith in
    elim (bool_cases (head.message == j)) [
      | inl is ↦ rw is (first_quarter head heads blocks k j own_quarter is)
      | inr other ↦
          ap (λ (b : Bool). if b then places_in head (quarter_of blocks k)
          else windows.places_of (messages_from (k + 1) heads blocks) j) other
          ∙ rest ∙ later_quarters (Some head) heads blocks k j other
    ]
