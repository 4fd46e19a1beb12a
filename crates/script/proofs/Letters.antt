-- Categories and their letters.
use Rattle.std.proofs.Common.{zero, suc, ◌≡◌, ℕ, ◌+◌, ◌*◌, ◌/◌, ◌%◌, ◌^◌, ◌<◌, ◌≤◌, false, eqb, List, [], ◌∷◌, ◌++◌, Some, None, refl, sym, ap, subst, ◌∙◌, arith, inl, inr, pow-suc}
use Rattle.std.specs.Prelude.{codes}
use Rattle.std.specs.List.{AllByRecursion}
use Rattle.std.specs.Str.{bytes_eq}
use Rattle.std.proofs.lemmas.Bool.{cases_Bool, cases_eq, eqb-true, eq-eqb, ne_eqb, lt-ltb}
use Rattle.std.proofs.lemmas.Bool.Decides.{nat_tests}
use Rattle.std.proofs.lemmas.List.{append-nil}
use Rattle.std.proofs.lemmas.Slice.Eq.{bytes_eq-Decides}
use Rattle.script.specs.Spelling.{letters, cats_word}
use Rattle.script.specs.inside.Readers.{rising, whole, cats_read}
use Rattle.script.proofs.Tools.{some_same, IsInk}

no_letters : (n letter : ℕ) → letters n letter 0 ++ [] ≡ []
unfolding letters
no_letters zero letter = refl
no_letters (suc n) letter = no_letters n (letter + 1)

-- the letters of what was read, and what stands behind them, are the word
letters-rising : (n letter : ℕ) (word : List ℕ)
    → letters n letter (rising n letter word).0 ++ (rising n letter word).1 ≡ word
unfolding letters rising
letters-rising zero letter word = refl
letters-rising (suc n) letter [] = no_letters n (letter + 1)
letters-rising (suc n) letter (c ∷ word) =
    elim (cases_eq c letter) [
      | inl same ↦
          let cats = (rising n (letter + 1) word).0 in
          let odd : (1 + 2 * cats) % 2 ≡ 1 = omega arith in
          let half : (1 + 2 * cats) / 2 ≡ cats = omega arith in
          rw (eq-eqb c letter same, odd, half)
          (ap (λ (x : List ℕ). letter ∷ x) (letters-rising n (letter + 1) word)
          ∙ ap (λ (x : ℕ). x ∷ word) (sym same))
      | inr other ↦
          let cats = (rising n (letter + 1) (c ∷ word)).0 in
          let even : (2 * cats) % 2 ≡ 0 = omega arith in
          let half : (2 * cats) / 2 ≡ cats = omega arith in
          rw (ne_eqb c letter other, even, half) (letters-rising n (letter + 1) (c ∷ word))
    ]

rising-nil : (n letter : ℕ) → rising n letter [] ≡ (0, [])
unfolding rising
rising-nil zero letter = refl
rising-nil (suc n) letter = refl

-- a letter that is left out
rising_past : (n letter : ℕ) (word : List ℕ) → AllByRecursion (λ c. letter + 1 ≤ c) word
    → rising (suc n) letter word ≡ (
      2 * (rising n (letter + 1) word).0,
      (rising n (letter + 1) word).1,
    )
unfolding rising
rising_past n letter [] above = rw (rising-nil n (letter + 1)) refl
rising_past n letter (c ∷ word) above =
    rw (ne_eqb c letter (λ e. absurd (omega (arith, above.0)))) refl

letters_above : (n low letter cats : ℕ) → low ≤ letter
    → AllByRecursion (λ c. low ≤ c) (letters n letter cats)
unfolding letters
letters_above zero low letter cats le = tt
letters_above (suc n) low letter cats le =
    elim (cases_Bool (eqb (cats % 2) 1)) [
      | inl is ↦ rw is (le, letters_above n low (letter + 1) (cats / 2) (omega arith))
      | inr not ↦ rw not (letters_above n low (letter + 1) (cats / 2) (omega arith))
    ]

rising-letters : (n letter cats : ℕ) → cats < 2 ^ n
    → rising n letter (letters n letter cats) ≡ (cats, [])
unfolding letters rising
rising-letters zero letter cats lt = let e : cats ≡ 0 = omega arith in rw e refl
rising-letters (suc n) letter cats lt =
    let half : cats / 2 < 2 ^ n = omega (arith, pow-suc 2 n) in
    let higher = rising-letters n (letter + 1) (cats / 2) half in
    elim (cases_Bool (eqb (cats % 2) 1)) [
      | inl is ↦
          let one = eqb-true (cats % 2) 1 is in
          let sum : 1 + 2 * (cats / 2) ≡ cats = omega arith in
          rw (is, eq-eqb letter letter refl, higher) (ap (λ (x : ℕ). (x, [])) sum)
      | inr not ↦
          let double : 2 * (cats / 2) ≡ cats = grind (arith, nat_tests) in
          rw not (rising_past n letter (letters n (letter + 1) (cats / 2))
          (letters_above n (letter + 1) (letter + 1) (cats / 2) (omega arith))
          ∙ rw higher (ap (λ (x : ℕ). (x, [])) double))
    ]

nothing_some : (cats : ℕ) → None ≡ Some cats → ⊥
nothing_some cats e = absurd cc

no_dash : (word : List ℕ) → AllByRecursion (λ c. 97 ≤ c) word → bytes_eq word (codes "-") ≡ false
no_dash [] above = refl
no_dash (c ∷ word) above = rw (ne_eqb c 45 (λ e. absurd (omega (arith, above.0)))) refl

pub cats_again : (cats : ℕ) → cats < 2 ^ 16 → cats_read (cats_word cats) ≡ Some cats
unfolding cats_read
cats_again cats lt =
    elim (cases_Bool (eqb cats 0)) [
      | inl is ↦ (let e : cats ≡ 0 = eqb-true cats 0 is in rw e refl)
      | inr not ↦ rw (
        not,
        no_dash (letters 16 97 cats) (letters_above 16 97 97 cats (omega arith)),
        rising-letters 16 97 cats lt,
        not,
      ) refl
    ]

rising_below : (n letter : ℕ) (word : List ℕ) → (rising n letter word).0 < 2 ^ n
unfolding rising
rising_below zero letter word = omega arith
rising_below (suc n) letter [] = omega (arith, rising_below n letter [])
rising_below (suc n) letter (c ∷ word) =
    elim (cases_Bool (eqb c letter)) [
      | inl is ↦ rw is (omega (arith, pow-suc 2 n, rising_below n (letter + 1) word))
      | inr not ↦ rw not (omega (arith, pow-suc 2 n, rising_below n (letter + 1) (c ∷ word)))
    ]

word_of : (cats : ℕ) → eqb cats 0 ≡ false → cats_word cats ≡ letters 16 97 cats
word_of cats h = rw h refl

wholly : (read : ℕ × List ℕ) (cats : ℕ) → whole read ≡ Some cats → (read ≡ (cats, []))
    × (eqb cats 0 ≡ false)
wholly (n, []) cats e =
    elim (cases_Bool (eqb n 0)) [
      | inl is ↦ absurd (nothing_some cats (rw is at e))
      | inr not ↦ (let s = some_same n cats (rw not at e) in
          (ap (λ (x : ℕ). (x, [])) s, subst (λ (x : ℕ). eqb x 0 ≡ false) s not))
    ]
wholly (n, c ∷ word) cats e = absurd (nothing_some cats e)

pub cats_takes : (word : List ℕ) (cats : ℕ) → cats_read word ≡ Some cats → (word ≡ cats_word cats)
    × (cats < 2 ^ 16)
unfolding cats_read
cats_takes word cats e =
    elim (cases_Bool (bytes_eq word (codes "-"))) [
      | inl is ↦
          let none : 0 ≡ cats = some_same 0 cats (rw is at e) in
          (rw (← none) ((bytes_eq-Decides word (codes "-")).0 is), omega arith)
      | inr not ↦
          let read = wholly (rising 16 97 word) cats (rw not at e) in
          let spelled : letters 16 97 cats ++ [] ≡ word =
          subst (λ (x : ℕ × List ℕ). letters 16 97 x.0 ++ x.1 ≡ word) read.0
          (letters-rising 16 97 word) in
          let first : (rising 16 97 word).0 ≡ cats = ap (λ (x : ℕ × List ℕ). x.0) read.0 in (
            sym spelled ∙ append-nil (letters 16 97 cats)
                ∙ sym (word_of cats read.1),
            omega (arith, rising_below 16 97 word, first),
          )
    ]

above_ink : (word : List ℕ) → AllByRecursion (λ c. 97 ≤ c) word → IsInk word
above_ink [] above = refl
above_ink (c ∷ word) above = rw (lt-ltb 32 c (omega (arith, above.0))) (above_ink word above.1)

pub cats_ink : (cats : ℕ) → IsInk (cats_word cats)
cats_ink cats =
    elim (cases_Bool (eqb cats 0)) [
      | inl is ↦ rw is refl
      | inr not ↦ rw not (above_ink (letters 16 97 cats)
          (letters_above 16 97 97 cats (omega arith)))
    ]
