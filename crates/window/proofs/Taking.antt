-- What a piece that is taken makes of what is held of its sender.
use Rattle.std.proofs.Common.{◌≡◌, ◌≢◌, ℕ, ◌+◌, ◌<◌, ◌≤◌, List, [], ◌∷◌, ◌&&◌, ◌||◌, length, Bool, true, false, Option, Some, None, is_some, refl, sym, ◌∙◌, ap, ap₂, subst, ◌⊎◌, inl, inr, arith}
use Rattle.std.specs.Prelude.{◌==◌, ◌%◌, nat_lt, nat_le, not, if◌then◌else◌}
use Rattle.std.specs.List.{list_any}
use Rattle.std.proofs.lemmas.Bool.Decides.{nat_tests}
use Rattle.std.proofs.lemmas.Nat.{div-add-mod'}
use Rattle.frame.specs.Pieces.{PieceView}
use Rattle.frame_pool.specs.Pools.{joined}
use Rattle.window.specs.WindowView.{Whole}
use Rattle.window.specs.ListRule.{or_else, last_of, has_newer, is_whole, completes, given_in, places_held, places_held_to, body}
use Rattle.window.specs.Windows.{IsNewest, IsGreatest, is_recent, is_above, taken, waiting_after}
use Rattle.window.specs.inside.Places.{after_piece, is_full}
use Rattle.window.specs.inside.Quarters.{joined_by}
use Rattle.window.specs.inside.Standing.{later_of, answer_with, answer_of, given_with, waiting_with, is_let_go, IsReady, is_kept, HoldsOnly, Holds}
use Rattle.window.specs.declared.reception.Taken.{Taken}
use Rattle.window.specs.declared.reception.Taken.TheVariants.{Nothing, Complete}
use Rattle.window.proofs.Rule.{bool_cases, later_than, none_later, whole_full, body_joined, places_other, places_own}
use Rattle.window.proofs.Given.{given_next, given_same, given_whole, whole_given}

-- ---- numbers in lists

newer_more : (h : List PieceView) (k m : ℕ) → has_newer h k ≡ false → k ≤ m → has_newer h m ≡ false
newer_more [] k m none le = refl
newer_more (x ∷ h) k m none le = grind (arith, nat_tests, none, newer_more h k m)

any_greater : (xs : List ℕ) (q m : ℕ) → list_any (λ k. k == q) xs ≡ true → m < q → list_any (nat_lt m) xs ≡ true
any_greater [] q m some lt = cc
any_greater (x ∷ xs) q m some lt = grind (arith, nat_tests, some, any_greater xs q m)

none_greater : (xs : List ℕ) (q m : ℕ) → list_any (nat_lt q) xs ≡ false → q ≤ m → list_any (nat_lt m) xs ≡ false
none_greater [] q m none le = refl
none_greater (x ∷ xs) q m none le = grind (arith, nat_tests, none, none_greater xs q m)

none_equal : (xs : List ℕ) (q m : ℕ) → list_any (nat_lt q) xs ≡ false → q < m → list_any (λ k. k == m) xs ≡ false
none_equal [] q m none lt = refl
none_equal (x ∷ xs) q m none lt = grind (arith, nat_tests, none, none_equal xs q m)

-- of two messages in one quarter that are both recent, one is newer than all
pub one_newer : (j m n : ℕ) → j % 4 ≡ m % 4 → j ≢ m → n ≤ j + 3 → n ≤ m + 3 → m ≤ n → n < j
one_newer j m n same ne recent near le =
    omega (arith, div-add-mod' j 4, div-add-mod' m 4, same, apart)
  where
    apart : (j < m) ⊎ (m < j)
    apart = grind (arith, ne)

-- ---- the newest number

no_places : (h : List PieceView) (j : ℕ) → last_of h j ≡ None → places_held h j ≡ []
no_places h j none = ap (places_held_to h j) none

some_or : (o : Option ℕ) (own : ℕ) → is_some (or_else o (Some own)) ≡ true
some_or None own = refl
some_or (Some n) own = refl

some_more : (o own : Option ℕ) → is_some o ≡ true → is_some (or_else o own) ≡ true
some_more None own is = cc
some_more (Some n) own is = refl

own_last : (h : List PieceView) (x : PieceView) → is_some (last_of (x ∷ h) x.message) ≡ true
own_last h x =
    let own : (x.message == x.message) ≡ true = grind (arith, nat_tests) in
    rw own (some_or (last_of h x.message) x.last)

not_own_newer : (h : List PieceView) (x : PieceView) → has_newer h x.message ≡ false
    → has_newer (x ∷ h) x.message ≡ false
not_own_newer h x none = let own : nat_lt x.message x.message ≡ false = grind (arith, nat_tests) in rw (own, none) refl

pub newest_next : (newest : Option ℕ) (h : List PieceView) (x : PieceView) → IsNewest newest h
    → IsNewest (Some (later_of newest x.message)) (x ∷ h)
newest_next None h x none = (own_last h x, not_own_newer h x (ap (λ g. has_newer g x.message) none))
newest_next (Some k) h x is =
    elim (bool_cases (nat_lt k x.message)) [
      | inl later ↦
          let e : later_of (Some k) x.message ≡ x.message = rw later refl in
          subst (λ (n : ℕ). IsNewest (Some n) (x ∷ h)) (sym e)
          (own_last h x, not_own_newer h x (newer_more h k x.message is.1 (grind (arith, nat_tests, later))))
      | inr older ↦
          let e : later_of (Some k) x.message ≡ k = rw older refl in
          let none = is.1 in
          subst (λ (n : ℕ). IsNewest (Some n) (x ∷ h)) (sym e)
          (some_more (last_of h k) (if x.message == k then Some x.last else None) is.0, rw (older, none) refl)
    ]

own_later : (newest : Option ℕ) (m : ℕ) → m ≤ later_of newest m
own_later None m = omega arith
own_later (Some k) m =
    elim (bool_cases (nat_lt k m)) [
      | inl later ↦ (let e : later_of (Some k) m ≡ m = rw later refl in omega (arith, e))
      | inr older ↦ (let e : later_of (Some k) m ≡ k = rw older refl in
          let le : m ≤ k = grind (arith, nat_tests, older) in omega (arith, e, le))
    ]

-- what stays recent was recent before
recent_before : (newest : Option ℕ) (h : List PieceView) (m j : ℕ) → IsNewest newest h
    → is_recent (Some (later_of newest m)) j ≡ true → (is_recent newest j ≡ true) ⊎ (h ≡ [])
recent_before None h m j none recent = inr none
recent_before (Some k) h m j is recent =
    elim (bool_cases (nat_lt k m)) [
      | inl later ↦
          let e : later_of (Some k) m ≡ m = rw later refl in
          let recent' : nat_le m (j + 3) ≡ true = ap (λ n. nat_le n (j + 3)) (sym e) ∙ recent in
          inl (grind (arith, nat_tests, later, recent'))
      | inr older ↦
          let e : later_of (Some k) m ≡ k = rw older refl in
          inl (ap (λ n. nat_le n (j + 3)) (sym e) ∙ recent)
    ]

-- ---- what is held once the newest number is noted

-- what is held while a piece is taken: of the messages that may still be given
pub record Noted (newest given : Option ℕ) (places : ℕ → List (Option (List ℕ))) (h : List PieceView) (x : PieceView)
    : Type 0 where
  pub latest : IsNewest (Some (later_of newest x.message)) (x ∷ h)
  pub before : IsNewest newest h
  pub greatest : IsGreatest given (given_in h)
  pub held : HoldsOnly (is_kept (Some (later_of newest x.message)) given None) places h

pub noted : (newest given : Option ℕ) (places now : ℕ → List (Option (List ℕ))) (h : List PieceView) (x : PieceView)
    → Holds newest given None places h
    → ((j : ℕ) → now j ≡ (if is_recent (Some (later_of newest x.message)) j then places j else []))
    → Noted newest given now h x
noted newest given places now h x s now_is = record {
  latest = newest_next newest h x s.newest;
  before = s.newest;
  greatest = s.given;
  held = λ j. now_is j ∙ by_recent j (is_recent (Some (later_of newest x.message)) j) refl;
} where
  by_recent : (j : ℕ) (b : Bool) → is_recent (Some (later_of newest x.message)) j ≡ b
      → (if b then places j else [])
      ≡ (if (is_recent (Some (later_of newest x.message)) j && is_above given j) || false then places_held h j else [])
  by_recent j false is = sym (ap (λ (b : Bool). if (b && is_above given j) || false then places_held h j else []) is)
  by_recent j true is =
      elim (recent_before newest h x.message j s.newest is) [
        | inl was ↦ s.held j
            ∙ ap (λ (b : Bool). if (b && is_above given j) || false then places_held h j else []) (was ∙ sym is)
        | inr none ↦
            let empty : places_held h j ≡ [] = ap (λ g. places_held g j) none in
            s.held j ∙ nothing (is_kept newest given None j) empty
            ∙ sym (nothing (is_kept (Some (later_of newest x.message)) given None j) empty)
      ]
    where
      nothing : (b : Bool) {ps : List (Option (List ℕ))} → ps ≡ [] → (if b then ps else []) ≡ []
      nothing true empty = empty
      nothing false empty = refl

-- the same for values that are known to be these
pub taken_noted : (newest given latest : Option ℕ) (waiting : Option Whole) (m : ℕ)
    (places now : ℕ → List (Option (List ℕ))) (h : List PieceView) (x : PieceView) → waiting ≡ None → m ≡ x.message
    → latest ≡ Some (later_of newest m) → ((j : ℕ) → now j ≡ (if is_recent latest j then places j else []))
    → Holds newest given waiting places h → Noted newest given now h x
taken_noted newest given latest waiting m places now h x free own latest_is now_is s =
    noted newest given places now h x (subst (λ (w : Option Whole). Holds newest given w places h) free s) (λ j.
    now_is j ∙ ap (λ (l : Option ℕ). if is_recent l j then places j else [])
    (latest_is ∙ ap (λ (n : ℕ). Some (later_of newest n)) own))

pub may_is : (latest latest' given given' : Option ℕ) (m m' : ℕ) (b : Bool) → latest ≡ latest' → given ≡ given'
    → m ≡ m' → b ≡ (is_recent latest m && is_above given m) → (is_recent latest' m' && is_above given' m') ≡ b
may_is latest latest' given given' m m' b same_latest same_given same_number is =
    sym (is ∙ ap₂ (λ (l : Option ℕ) (n : ℕ). is_recent l n && is_above given n) same_latest same_number
    ∙ ap (λ (g : Option ℕ). is_recent latest' m' && is_above g m') same_given)

pub holds_along : (newest newest' given given' : Option ℕ) (waiting waiting' : Option Whole)
    (places : ℕ → List (Option (List ℕ))) (h : List PieceView) → newest ≡ newest' → given ≡ given' → waiting ≡ waiting'
    → Holds newest' given' waiting' places h → Holds newest given waiting places h
holds_along newest newest' given given' waiting waiting' places h same_newest same_given same_waiting s =
    subst (λ (n : Option ℕ). Holds n given waiting places h) (sym same_newest)
    (subst (λ (g : Option ℕ). Holds newest' g waiting places h) (sym same_given)
    (subst (λ (w : Option Whole). Holds newest' given' w places h) (sym same_waiting) s))

-- ---- a piece that can give nothing

not_second : (a b c d : Bool) → b ≡ false → (a && b && c && d) ≡ false
not_second true true c d is = cc
not_second true false c d is = refl
not_second false b c d is = refl

not_third : (a b c d : Bool) → c ≡ false → (a && b && c && d) ≡ false
not_third true true true d is = cc
not_third true true false d is = refl
not_third true false c d is = refl
not_third false b c d is = refl

not_fourth : (a b c d : Bool) → d ≡ false → (a && b && c && d) ≡ false
not_fourth true true true d is = is
not_fourth true true false d is = refl
not_fourth true false c d is = refl
not_fourth false b c d is = refl

-- the reasons why a piece completes nothing
whole_already : (h : List PieceView) (x : PieceView) → is_whole h x.message ≡ true → completes h x ≡ false
whole_already h x whole =
    not_second (is_whole (x ∷ h) x.message) (not (is_whole h x.message)) (not (has_newer h (x.message + 3)))
    (not (list_any (nat_lt x.message) (given_in h))) (ap not whole)

too_old : (h : List PieceView) (x : PieceView) → has_newer h (x.message + 3) ≡ true → completes h x ≡ false
too_old h x newer =
    not_third (is_whole (x ∷ h) x.message) (not (is_whole h x.message)) (not (has_newer h (x.message + 3)))
    (not (list_any (nat_lt x.message) (given_in h))) (ap not newer)

behind_given : (h : List PieceView) (x : PieceView) → list_any (nat_lt x.message) (given_in h) ≡ true
    → completes h x ≡ false
behind_given h x greater =
    not_fourth (is_whole (x ∷ h) x.message) (not (is_whole h x.message)) (not (has_newer h (x.message + 3)))
    (not (list_any (nat_lt x.message) (given_in h))) (ap not greater)

unrecent : (newest : Option ℕ) (h : List PieceView) (x : PieceView) → IsNewest newest h
    → is_recent (Some (later_of newest x.message)) x.message ≡ false → completes h x ≡ false
unrecent None h x none old = (let le : nat_le x.message (x.message + 3) ≡ true = grind (arith, nat_tests) in cc)
unrecent (Some k) h x is old =
    elim (bool_cases (nat_lt k x.message)) [
      | inl later ↦
          let e : later_of (Some k) x.message ≡ x.message = rw later refl in
          let old' : nat_le x.message (x.message + 3) ≡ false = ap (λ n. nat_le n (x.message + 3)) (sym e) ∙ old in
          let le : nat_le x.message (x.message + 3) ≡ true = grind (arith, nat_tests) in
          cc
      | inr older ↦
          let e : later_of (Some k) x.message ≡ k = rw older refl in
          let old' : nat_le k (x.message + 3) ≡ false = ap (λ n. nat_le n (x.message + 3)) (sym e) ∙ old in
          too_old h x (later_than h k (x.message + 3) is.0 (grind (arith, nat_tests, old')))
    ]

below_given : (given : Option ℕ) (h : List PieceView) (x : PieceView) → IsGreatest given (given_in h)
    → is_above given x.message ≡ false → completes h x ≡ false
below_given None h x none below = cc
below_given (Some q) h x is below =
    elim (bool_cases (x.message == q)) [
      | inl same ↦
          let e : q ≡ x.message = grind (arith, nat_tests, same) in
          whole_already h x (given_whole h x.message (ap (λ n. list_any (λ k. k == n) (given_in h)) (sym e) ∙ is.0))
      | inr other ↦
          behind_given h x (any_greater (given_in h) q x.message is.0 (grind (arith, nat_tests, below, other)))
    ]

pub cannot : (newest given : Option ℕ) (places : ℕ → List (Option (List ℕ))) (h : List PieceView) (x : PieceView)
    → Noted newest given places h x
    → (is_recent (Some (later_of newest x.message)) x.message && is_above given x.message) ≡ false
    → completes h x ≡ false
cannot newest given places h x n never =
    by_recent (is_recent (Some (later_of newest x.message)) x.message) refl never where
      by_recent : (b : Bool) → is_recent (Some (later_of newest x.message)) x.message ≡ b
          → (b && is_above given x.message) ≡ false → completes h x ≡ false
      by_recent true is below = below_given given h x n.greatest below
      by_recent false is below = unrecent newest h x n.before is

greatest_same : (given : Option ℕ) (h : List PieceView) (x : PieceView) → IsGreatest given (given_in h)
    → completes h x ≡ false → IsGreatest given (given_in (x ∷ h))
greatest_same given h x is never = subst (IsGreatest given) (sym (given_same h x never)) is

if_alike : (b : Bool) {ps qs : List (Option (List ℕ))} → ps ≡ qs → (if b then ps else []) ≡ (if b then qs else [])
if_alike true same = same
if_alike false same = refl

same_number : (m j : ℕ) → (m == j) ≡ true → m ≡ j
same_number m j is = grind (arith, nat_tests, is)

other_way : (m j : ℕ) → (m == j) ≡ (j == m)
other_way m j = grind (arith, nat_tests)

-- a piece that can give nothing is passed over
pub passed_over : (newest given : Option ℕ) (places : ℕ → List (Option (List ℕ))) (h : List PieceView) (x : PieceView)
    → Noted newest given places h x
    → (is_recent (Some (later_of newest x.message)) x.message && is_above given x.message) ≡ false
    → Holds (Some (later_of newest x.message)) given None places (x ∷ h)
passed_over newest given places h x n never = record {
  newest = n.latest;
  given = greatest_same given h x n.greatest (cannot newest given places h x n never);
  held = λ j. n.held j ∙ by_own j (x.message == j) refl;
  waiting = tt;
} where
  by_own : (j : ℕ) (b : Bool) → (x.message == j) ≡ b
      → (if is_kept (Some (later_of newest x.message)) given None j then places_held h j else [])
      ≡ (if is_kept (Some (later_of newest x.message)) given None j then places_held (x ∷ h) j else [])
  by_own j false other = if_alike (is_kept (Some (later_of newest x.message)) given None j)
      (sym (places_other h x j other))
  by_own j true own =
      let e = same_number x.message j own in
      let not_kept : is_kept (Some (later_of newest x.message)) given None j ≡ false =
      ap (is_kept (Some (later_of newest x.message)) given None) (sym e) ∙ ap (λ b. b || false) never in
      ap (λ (b : Bool). if b then places_held h j else []) not_kept
      ∙ sym (ap (λ (b : Bool). if b then places_held (x ∷ h) j else []) not_kept)

-- ---- a piece that joins those of its message

kept_both : (a b : Bool) → (a && b) ≡ true → (a ≡ true) × (b ≡ true)
kept_both true b both = (refl, both)
kept_both false b both = cc

none_waits : (b : Bool) → (b || false) ≡ b
none_waits true = refl
none_waits false = refl

pub record Joined (newest given : Option ℕ) (places : ℕ → List (Option (List ℕ))) (h : List PieceView) (x : PieceView)
    : Type 0 where
  pub latest : IsNewest (Some (later_of newest x.message)) (x ∷ h)
  pub greatest : IsGreatest given (given_in h)
  pub recent : is_recent (Some (later_of newest x.message)) x.message ≡ true
  pub above : is_above given x.message ≡ true
  pub held : HoldsOnly (is_kept (Some (later_of newest x.message)) given None) places (x ∷ h)

pub joins : (newest given : Option ℕ) (places now : ℕ → List (Option (List ℕ))) (h : List PieceView) (x : PieceView)
    → x.piece ≤ x.last → Noted newest given places h x
    → (is_recent (Some (later_of newest x.message)) x.message && is_above given x.message) ≡ true
    → ((j : ℕ) → now j ≡ joined_by places x j) → Joined newest given now h x
joins newest given places now h x within n may now_is =
    let both = kept_both (is_recent (Some (later_of newest x.message)) x.message) (is_above given x.message) may in
    record {
      latest = n.latest;
      greatest = n.greatest;
      recent = both.0;
      above = both.1;
      held = λ j. now_is j ∙ by_own j (j == x.message) refl;
    }
  where
    kept_own : is_kept (Some (later_of newest x.message)) given None x.message ≡ true
    kept_own = ap (λ b. b || false) may

    near : later_of newest x.message ≤ x.message + 3
    near =
        let recent = (kept_both (is_recent (Some (later_of newest x.message)) x.message)
        (is_above given x.message) may).0 in
        grind (arith, nat_tests, recent)

    -- of another message in the quarter there is no piece
    nothing_there : (j : ℕ) → (j == x.message) ≡ false → (j % 4 == x.message % 4) ≡ true → (b : Bool)
        → is_kept (Some (later_of newest x.message)) given None j ≡ b
        → [] ≡ (if b then places_held (x ∷ h) j else [])
    nothing_there j other here false is = refl
    nothing_there j other here true is =
        let recent = (kept_both (is_recent (Some (later_of newest x.message)) j) (is_above given j)
        (sym (none_waits (is_recent (Some (later_of newest x.message)) j && is_above given j)) ∙ is)).0 in
        let newer : later_of newest x.message < j =
        one_newer j x.message (later_of newest x.message) (same_number (j % 4) (x.message % 4) here)
        (grind (arith, nat_tests, other)) (grind (arith, nat_tests, recent)) near (own_later newest x.message) in
        sym (no_places (x ∷ h) j (none_later (x ∷ h) (later_of newest x.message) j n.latest.1 newer))

    by_quarter : (j : ℕ) → (j == x.message) ≡ false → (b : Bool) → (j % 4 == x.message % 4) ≡ b
        → (if b then [] else places j)
        ≡ (if is_kept (Some (later_of newest x.message)) given None j then places_held (x ∷ h) j else [])
    by_quarter j other true here =
        nothing_there j other here (is_kept (Some (later_of newest x.message)) given None j) refl
    by_quarter j other false there =
        n.held j ∙ if_alike (is_kept (Some (later_of newest x.message)) given None j)
        (sym (places_other h x j (other_way x.message j ∙ other)))

    by_own : (j : ℕ) (b : Bool) → (j == x.message) ≡ b
        → (if b then after_piece (places j) x else (if j % 4 == x.message % 4 then [] else places j))
        ≡ (if is_kept (Some (later_of newest x.message)) given None j then places_held (x ∷ h) j else [])
    by_own j true own =
        let e = same_number j x.message own in
        let kept : is_kept (Some (later_of newest x.message)) given None j ≡ true =
        ap (is_kept (Some (later_of newest x.message)) given None) e ∙ kept_own in
        ap (λ ps. after_piece ps x)
        (n.held j ∙ ap (λ (b : Bool). if b then places_held h j else []) kept ∙ ap (places_held h) e)
        ∙ sym (places_own h x within) ∙ ap (places_held (x ∷ h)) (sym e)
        ∙ sym (ap (λ (b : Bool). if b then places_held (x ∷ h) j else []) kept)
    by_own j false other = by_quarter j other (j % 4 == x.message % 4) refl

-- the places of the piece's message
own_places : (newest given : Option ℕ) (places : ℕ → List (Option (List ℕ))) (h : List PieceView) (x : PieceView)
    → Joined newest given places h x → places x.message ≡ places_held (x ∷ h) x.message
own_places newest given places h x n =
    let recent = n.recent in
    let above = n.above in
    n.held x.message ∙ ap₂
    (λ (a b : Bool). if (a && b) || false then places_held (x ∷ h) x.message else []) recent above

-- ---- whether it completes its message

none_given : (given : Option ℕ) (numbers : List ℕ) (m : ℕ) → IsGreatest given numbers → is_above given m ≡ true
    → (list_any (nat_lt m) numbers ≡ false) × (list_any (λ k. k == m) numbers ≡ false)
none_given None numbers m is above = (ap (list_any (nat_lt m)) is, ap (list_any (λ k. k == m)) is)
none_given (Some q) numbers m is above =
    let lt : q < m = grind (arith, nat_tests, above) in
    (none_greater numbers q m is.1 (omega (arith, lt)), none_equal numbers q m is.1 lt)

unfinished : (newest given : Option ℕ) (places : ℕ → List (Option (List ℕ))) (h : List PieceView) (x : PieceView)
    → Joined newest given places h x → (has_newer h (x.message + 3) ≡ false) × (is_whole h x.message ≡ false)
unfinished newest given places h x n =
    let recent = n.recent in
    let none = none_given given (given_in h) x.message n.greatest n.above in
    let later : has_newer (x ∷ h) (x.message + 3) ≡ false =
    newer_more (x ∷ h) (later_of newest x.message) (x.message + 3) n.latest.1 (grind (arith, nat_tests, recent)) in
    let old : has_newer h (x.message + 3) ≡ false = grind (arith, nat_tests, later) in (
      old,
      elim (bool_cases (is_whole h x.message)) [
        | inl whole ↦ (let was = sym (whole_given h x.message whole old none.0) ∙ none.1 in cc)
        | inr not_whole ↦ not_whole
      ],
    )

and_rest : (a : Bool) → (a && true && true && true) ≡ a
and_rest true = refl
and_rest false = refl

pub completes_full : (newest given : Option ℕ) (places : ℕ → List (Option (List ℕ))) (h : List PieceView)
    (x : PieceView)
    → Joined newest given places h x → completes h x ≡ is_full (places x.message)
completes_full newest given places h x n =
    let u = unfinished newest given places h x n in
    let old = u.0 in
    let not_whole = u.1 in
    let above = (none_given given (given_in h) x.message n.greatest n.above).0 in
    rw (old, not_whole, above) (and_rest (is_whole (x ∷ h) x.message)) ∙ whole_full (x ∷ h) x.message
    ∙ sym (ap is_full (own_places newest given places h x n))

pub answer_is : (newest given : Option ℕ) (places : ℕ → List (Option (List ℕ))) (h : List PieceView) (x : PieceView)
    → Joined newest given places h x → answer_of (places x.message) ≡ taken h x
answer_is newest given places h x n =
    let bytes : joined (places x.message) ≡ body (x ∷ h) x.message =
    ap joined (own_places newest given places h x n) ∙ sym (body_joined (x ∷ h) x.message) in
    let same = completes_full newest given places h x n in
    by_full (is_full (places x.message)) refl (same) bytes
  where
    by_full : (b : Bool) → is_full (places x.message) ≡ b → completes h x ≡ is_full (places x.message)
        → joined (places x.message) ≡ body (x ∷ h) x.message
        → answer_of (places x.message) ≡ taken h x
    by_full true full same bytes =
        let now : completes h x ≡ true = same ∙ full in
        ap (λ (b : Bool). answer_with (if b then Some (length (joined (places x.message))) else None)) full
        ∙ ap (λ (bs : List ℕ). Complete (length bs)) bytes
        ∙ sym (ap (λ (b : Bool). if b then Complete (length (body (x ∷ h) x.message)) else Nothing) now)
    by_full false part same bytes =
        let never : completes h x ≡ false = same ∙ part in
        ap (λ (b : Bool). answer_with (if b then Some (length (joined (places x.message))) else None)) part
        ∙ sym (ap (λ (b : Bool). if b then Complete (length (body (x ∷ h) x.message)) else Nothing) never)

-- ---- what is held after the answer

full_of : (places : List (Option (List ℕ))) (n : ℕ) → Complete n ≡ answer_of places
    → (is_full places ≡ true) × (n ≡ length (joined places))
full_of places n is = by_full (is_full places) refl where
  by_full : (b : Bool) → is_full places ≡ b → (is_full places ≡ true) × (n ≡ length (joined places))
  by_full true full =
      let now : Complete n ≡ Complete (length (joined places)) =
      is ∙ ap (λ (b : Bool). answer_with (if b then Some (length (joined places)) else None)) full in
      (full, cc)
  by_full false part =
      let now : Complete n ≡ Nothing =
      is ∙ ap (λ (b : Bool). answer_with (if b then Some (length (joined places)) else None)) part in
      cc

not_full_of : (places : List (Option (List ℕ))) → Nothing ≡ answer_of places → is_full places ≡ false
not_full_of places is = by_full (is_full places) refl where
  by_full : (b : Bool) → is_full places ≡ b → is_full places ≡ false
  by_full true full =
      let now : Nothing ≡ Complete (length (joined places)) =
      is ∙ ap (λ (b : Bool). answer_with (if b then Some (length (joined places)) else None)) full in
      cc
  by_full false part = part

above_more : (given : Option ℕ) (m j : ℕ) → is_above given m ≡ true → nat_lt m j ≡ true → is_above given j ≡ true
above_more None m j above lt = refl
above_more (Some q) m j above lt = grind (arith, nat_tests, above, lt)

irreflexive : (m : ℕ) → nat_lt m m ≡ false
irreflexive m = grind (arith, nat_tests)

reflexive : (m : ℕ) → (m == m) ≡ true
reflexive m = grind (arith, nat_tests)

pub settled : (newest given : Option ℕ) (places now : ℕ → List (Option (List ℕ))) (h : List PieceView) (x : PieceView)
    (answer : Taken) → Joined newest given places h x → answer ≡ answer_of (places x.message)
    → ((j : ℕ) → now j ≡ (if is_let_go x.message answer j then [] else places j))
    → Holds (Some (later_of newest x.message)) (given_with given x.message answer)
    (waiting_with None x.message answer) now (x ∷ h)
settled newest given places now h x Nothing n is now_is =
    let never = completes_full newest given places h x n ∙ not_full_of (places x.message) is in
    record {
      newest = n.latest;
      given = greatest_same given h x n.greatest never;
      held = λ j. now_is j ∙ n.held j;
      waiting = tt;
    }
settled newest given places now h x (Complete size) n is now_is =
    let full = full_of (places x.message) size is in
    let done = completes_full newest given places h x n ∙ full.0 in
    let none = none_given given (given_in h) x.message n.greatest n.above in
    let same = reflexive x.message in
    let not_less = irreflexive x.message in
    let above = none.0 in
    record {
      newest = n.latest;
      given = subst (IsGreatest (Some x.message)) (sym (given_next h x done))
          (rw same refl, rw (not_less, above) refl);
      held = λ j. now_is j ∙ by_side j (nat_lt j x.message) (x.message == j) refl refl;
      waiting = (
        refl,
        full.1 ∙ ap (λ ps. length (joined ps)) (own_places newest given places h x n)
            ∙ sym (ap length (body_joined (x ∷ h) x.message)),
      );
    }
  where
    by_side : (j : ℕ) (less own : Bool) → nat_lt j x.message ≡ less → (x.message == j) ≡ own
        → (if nat_lt j x.message then [] else places j)
        ≡ (if (is_recent (Some (later_of newest x.message)) j && nat_lt x.message j) || (x.message == j)
        then places_held (x ∷ h) j else [])
    by_side j true own below is_own =
        let not_above : nat_lt x.message j ≡ false = grind (arith, nat_tests, below) in
        let other : (x.message == j) ≡ false = grind (arith, nat_tests, below) in
        ap (λ (b : Bool). if b then [] else places j) below
        ∙ sym (ap₂ (λ (a b : Bool). if (is_recent (Some (later_of newest x.message)) j && a) || b
        then places_held (x ∷ h) j else []) not_above other
        ∙ never (is_recent (Some (later_of newest x.message)) j))
      where
        never : (b : Bool) → (if (b && false) || false then places_held (x ∷ h) j else []) ≡ []
        never true = refl
        never false = refl
    by_side j false true not_below own =
        let e = same_number x.message j own in
        ap (λ (b : Bool). if b then [] else places j) not_below
        ∙ ap places (sym e) ∙ own_places newest given places h x n ∙ ap (places_held (x ∷ h)) e
        ∙ sym (ap (λ (b : Bool). if (is_recent (Some (later_of newest x.message)) j && nat_lt x.message j) || b
        then places_held (x ∷ h) j else []) own
        ∙ always (is_recent (Some (later_of newest x.message)) j && nat_lt x.message j))
      where
        always : (b : Bool) → (if b || true then places_held (x ∷ h) j else []) ≡ places_held (x ∷ h) j
        always true = refl
        always false = refl
    by_side j false false not_below other =
        let greater : nat_lt x.message j ≡ true = grind (arith, nat_tests, not_below, other) in
        let above = above_more given x.message j n.above greater in
        ap (λ (b : Bool). if b then [] else places j) not_below
        ∙ n.held j
        ∙ ap (λ (b : Bool). if (is_recent (Some (later_of newest x.message)) j && b) || false
        then places_held (x ∷ h) j else []) (above ∙ sym greater)
        ∙ ap (λ (b : Bool). if (is_recent (Some (later_of newest x.message)) j && nat_lt x.message j) || b
        then places_held (x ∷ h) j else []) (sym other)

-- what waits is held whole
pub ready_after : (places now : ℕ → List (Option (List ℕ))) (m : ℕ) (answer : Taken) → answer ≡ answer_of (places m)
    → ((j : ℕ) → now j ≡ (if is_let_go m answer j then [] else places j))
    → IsReady (waiting_with None m answer) now
ready_after places now m Nothing is now_is = tt
ready_after places now m (Complete size) is now_is =
    let full = full_of (places m) size is in
    let not_less = irreflexive m in
    let same : now m ≡ places m = now_is m ∙ rw not_less refl in
    (ap is_full same ∙ full.0, full.1 ∙ sym (ap (λ ps. length (joined ps)) same))

pub waits_after : (x : PieceView) (answer : Taken) → waiting_with None x.message answer ≡ waiting_after x answer
waits_after x Nothing = refl
waits_after x (Complete size) = refl

-- ---- what is handed out

pub waiting_places : (newest given : Option ℕ) (whole : Whole) (places : ℕ → List (Option (List ℕ)))
    (h : List PieceView) → Holds newest given (Some whole) places h → places whole.message
    ≡ places_held h whole.message
waiting_places newest given whole places h s =
    let own = reflexive whole.message in
    s.held whole.message ∙ rw own (always (is_recent newest whole.message && is_above given whole.message))
  where
    always : (b : Bool) → (if b || true then places_held h whole.message else []) ≡ places_held h whole.message
    always true = refl
    always false = refl

pub handed_body : (newest given : Option ℕ) (whole : Whole) (places : ℕ → List (Option (List ℕ))) (h : List PieceView)
    → Holds newest given (Some whole) places h → joined (places whole.message) ≡ body h whole.message
handed_body newest given whole places h s =
    ap joined (waiting_places newest given whole places h s) ∙ sym (body_joined h whole.message)

pub handed_out : (newest given : Option ℕ) (whole : Whole) (places now : ℕ → List (Option (List ℕ)))
    (h : List PieceView) → Holds newest given (Some whole) places h
    → ((j : ℕ) → now j ≡ (if j == whole.message then [] else places j)) → Holds newest given None now h
handed_out newest given whole places now h s now_is = record {
  newest = s.newest;
  given = s.given;
  held = λ j. now_is j ∙ by_own j (j == whole.message) refl;
  waiting = tt;
} where
  not_given : (g : Option ℕ) (j : ℕ) → g ≡ Some whole.message → j ≡ whole.message → is_above g j ≡ false
  not_given g j is same = ap₂ is_above is same ∙ irreflexive whole.message

  none_of : (a b : Bool) (ps : List (Option (List ℕ))) → b ≡ false → [] ≡ (if (a && b) || false then ps else [])
  none_of true true ps is = cc
  none_of true false ps is = refl
  none_of false b ps is = refl

  by_own : (j : ℕ) (b : Bool) → (j == whole.message) ≡ b
      → (if b then [] else places j) ≡
      (if (is_recent newest j && is_above given j) || false then places_held h j else [])
  by_own j true own =
      none_of (is_recent newest j) (is_above given j) (places_held h j)
      (not_given given j s.waiting.0 (same_number j whole.message own))
  by_own j false other =
      s.held j ∙ ap (λ (b : Bool). if (is_recent newest j && is_above given j) || b then places_held h j else [])
      (other_way whole.message j ∙ other)
