-- The numbers of the messages that a list of pieces gave.
use Rattle.std.proofs.Common.{◌≡◌, ℕ, ◌+◌, List, [], ◌∷◌, ◌&&◌, ◌||◌, Bool, true, false, Option, Some, None, refl, sym, ◌∙◌, ap, inl, inr, arith}
use Rattle.std.specs.Prelude.{◌==◌, nat_lt, not}
use Rattle.std.specs.List.{list_all, list_any}
use Rattle.std.proofs.lemmas.Bool.Decides.{nat_tests}
use Rattle.frame.specs.Pieces.{PieceView}
use Rattle.window.specs.ListRule.{is_at, is_held, is_whole, is_whole_to, has_newer, last_of, places_to, given_in, completes}
use Rattle.window.specs.inside.Places.{is_full}
use Rattle.window.proofs.Rule.{bool_cases, whole_full, places_other}

all_more : (P Q : ℕ → Bool) (xs : List ℕ) → ((i : ℕ) → P i ≡ true → Q i ≡ true) → list_all P xs ≡ true
    → list_all Q xs ≡ true
all_more P Q [] more all = refl
all_more P Q (x ∷ xs) more all = grind (arith, nat_tests, more x, all_more P Q xs more)

or_right : (a b : Bool) → b ≡ true → (a || b) ≡ true
or_right true b h = refl
or_right false b h = h

some_whole : (h : List PieceView) (j : ℕ) (o : Option ℕ) → last_of h j ≡ o → is_whole_to h j o ≡ true
    → (last : ℕ) × (last_of h j ≡ Some last) × (list_all (is_held h j last) (places_to last) ≡ true)
some_whole h j None is whole = cc
some_whole h j (Some last) is whole = (last, is, whole)

-- a message that is whole stays whole
whole_stays : (h : List PieceView) (x : PieceView) (j : ℕ) → is_whole h j ≡ true → is_whole (x ∷ h) j ≡ true
whole_stays h x j whole =
    let w = some_whole h j (last_of h j) refl whole in
    let is_last = w.1 in
    rw is_last (all_more (is_held h j w.0) (is_held (x ∷ h) j w.0) (places_to w.0)
    (λ i held. or_right (is_at j w.0 i x) (is_held h j w.0 i) held) w.2)

-- only a piece of a message makes it whole
whole_before : (h : List PieceView) (x : PieceView) (j : ℕ) → (x.message == j) ≡ false
    → is_whole (x ∷ h) j ≡ is_whole h j
whole_before h x j other =
    whole_full (x ∷ h) j ∙ ap is_full (places_other h x j other) ∙ sym (whole_full h j)

-- the numbers after one more piece
pub given_next : (h : List PieceView) (x : PieceView) → completes h x ≡ true
    → given_in (x ∷ h) ≡ x.message ∷ given_in h
given_next h x now = rw now refl

pub given_same : (h : List PieceView) (x : PieceView) → completes h x ≡ false → given_in (x ∷ h) ≡ given_in h
given_same h x never = rw never refl

-- when a piece completes its message
pub completing : (h : List PieceView) (x : PieceView) → is_whole (x ∷ h) x.message ≡ true
    → is_whole h x.message ≡ false → has_newer h (x.message + 3) ≡ false
    → list_any (nat_lt x.message) (given_in h) ≡ false → completes h x ≡ true
completing h x whole not_before recent above = rw (whole, not_before, recent, above) refl

-- what was given is whole
pub given_whole : (h : List PieceView) (j : ℕ) → list_any (λ k. k == j) (given_in h) ≡ true → is_whole h j ≡ true
given_whole [] j among = cc
given_whole (x ∷ h) j among =
    elim (bool_cases (completes h x)) [
      | inl now ↦
          let among' : list_any (λ k. k == j) (x.message ∷ given_in h) ≡ true =
          sym (ap (list_any (λ k. k == j)) (given_next h x now)) ∙ among in
          elim (bool_cases (x.message == j)) [
            | inl own ↦
                let same : x.message ≡ j = grind (arith, nat_tests, own) in
                ap (is_whole (x ∷ h)) (sym same) ∙ first_true (is_whole (x ∷ h) x.message)
                (not (is_whole h x.message)) (not (has_newer h (x.message + 3)))
                (not (list_any (nat_lt x.message) (given_in h))) now
            | inr other ↦ whole_stays h x j (given_whole h j (grind (arith, nat_tests, other, among')))
          ]
      | inr never ↦
          whole_stays h x j (given_whole h j (sym (ap (list_any (λ k. k == j)) (given_same h x never)) ∙ among))
    ]
  where
    first_true : (a b c d : Bool) → (a && b && c && d) ≡ true → a ≡ true
    first_true true b c d all = refl
    first_true false b c d all = all

-- what is whole and may still be given was given
pub whole_given : (h : List PieceView) (j : ℕ) → is_whole h j ≡ true → has_newer h (j + 3) ≡ false
    → list_any (nat_lt j) (given_in h) ≡ false → list_any (λ k. k == j) (given_in h) ≡ true
whole_given [] j whole recent above = cc
whole_given (x ∷ h) j whole recent above =
    let recent' : has_newer h (j + 3) ≡ false = grind (arith, nat_tests, recent) in
    elim (bool_cases (is_whole h j)) [
      | inl before ↦
          elim (bool_cases (completes h x)) [
            | inl now ↦
                let list = given_next h x now in
                let above' : list_any (nat_lt j) (x.message ∷ given_in h) ≡ false =
                sym (ap (list_any (nat_lt j)) list) ∙ above in
                ap (list_any (λ k. k == j)) list
                ∙ or_right (x.message == j) (list_any (λ k. k == j) (given_in h))
                (whole_given h j before recent' (grind (arith, nat_tests, above')))
            | inr never ↦
                let list = given_same h x never in
                ap (list_any (λ k. k == j)) list
                ∙ whole_given h j before recent' (sym (ap (list_any (nat_lt j)) list) ∙ above)
          ]
      | inr not_before ↦
          elim (bool_cases (x.message == j)) [
            | inl own ↦
                let same : x.message ≡ j = grind (arith, nat_tests, own) in
                let lower : list_any (nat_lt j) (given_in h) ≡ false = fewer (completes h x) refl in
                let now = completing h x (ap (is_whole (x ∷ h)) same ∙ whole) (ap (is_whole h) same ∙ not_before)
                (ap (λ (k : ℕ). has_newer h (k + 3)) same ∙ recent')
                (ap (λ (k : ℕ). list_any (nat_lt k) (given_in h)) same ∙ lower) in
                ap (list_any (λ k. k == j)) (given_next h x now) ∙ rw own refl
            | inr other ↦ (let after = sym (whole_before h x j other) ∙ whole in cc)
          ]
    ]
  where
    fewer : (b : Bool) → completes h x ≡ b → list_any (nat_lt j) (given_in h) ≡ false
    fewer true now =
        let above' : list_any (nat_lt j) (x.message ∷ given_in h) ≡ false =
        sym (ap (list_any (nat_lt j)) (given_next h x now)) ∙ above in
        grind (arith, nat_tests, above')
    fewer false never = sym (ap (list_any (nat_lt j)) (given_same h x never)) ∙ above
