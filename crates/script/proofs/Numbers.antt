-- Numbers and their decimal digits.
use Rattle.std.proofs.Common.{zero, suc, lit<, ◌≡◌, ℕ, ◌^◌, ◌<◌, ◌≤◌, true, leb, ◌&&◌, List, [], ◌∷◌, length, get_or, Some, refl, sym, ap, arith, rules}
use Rattle.std.specs.Fmt.{decimal}
use Rattle.std.specs.Str.{all_ascii_digits}
use Rattle.std.specs.List.{list_all}
use Rattle.std.specs.Char.{is_ascii_digit}
use Rattle.std.proofs.lemmas.Bool.{le-leb}
use Rattle.std.proofs.lemmas.Bool.Decides.{nat_tests}
use Rattle.std.proofs.lemmas.Str.Parse.{IsNumeralModel, numerals_by_fold}
use Rattle.std.proofs.lemmas.Fmt.{digits_decimal, digits_value-decimal, decimal-digits_value, decimal_nonempty, first_decimal, decimal_digit}
use Rattle.script.specs.inside.Readers.{value_on, is_unpadded, number_read}
use Rattle.script.proofs.Tools.{guard_some, both}

model : IsNumeralModel (λ digits. all_ascii_digits digits ≡ true) (value_on 0)
model = numerals_by_fold _ (search rules) value_on (search rules)

plain_word : (word : List ℕ) → is_unpadded word ≡ true → (0 < length word)
    × (get_or word 0 0 ≡ 48 → length word ≡ 1)
plain_word [] h = absurd cc
plain_word (c ∷ []) h = (omega arith, λ _. refl)
plain_word (c ∷ d ∷ more) h = (omega arith, λ e. absurd (grind (arith, nat_tests)))

word_plain : (word : List ℕ) → 0 < length word → (get_or word 0 0 ≡ 48 → length word ≡ 1)
    → is_unpadded word ≡ true
word_plain [] h e = absurd (omega arith)
word_plain (c ∷ []) h e = refl
word_plain (c ∷ d ∷ more) h e = grind (arith, nat_tests)

-- a word that is read as a number is the number's one spelling
pub number_takes : (low high : ℕ) (word : List ℕ) (n : ℕ) → high < 2 ^ 64
    → number_read low high word ≡ Some n → (word ≡ decimal n) × (low ≤ n) × (n ≤ high)
unfolding number_read
number_takes low high word n bound e =
    let g = guard_some (is_unpadded word && all_ascii_digits word && leb low (value_on 0 word)
    && leb (value_on 0 word) high) (value_on 0 word) n e in
    let most = both (is_unpadded word && all_ascii_digits word && leb low (value_on 0 word))
    (leb (value_on 0 word) high) g.0 in
    let least = both (is_unpadded word && all_ascii_digits word) (leb low (value_on 0 word))
    most.0 in
    let digits = both (is_unpadded word) (all_ascii_digits word) least.0 in
    let plain = plain_word word digits.0 in
    let le : value_on 0 word ≤ high = grind (arith, nat_tests) in
    let ge : low ≤ value_on 0 word = grind (arith, nat_tests) in
    let spelled = decimal-digits_value model word digits.1 plain.0 plain.1 (omega arith) in
    rw (← g.1) (sym spelled, ge, le)

decimal_plain : (n : ℕ) → n < 2 ^ 64 → is_unpadded (decimal n) ≡ true
decimal_plain zero lt = ap is_unpadded (decimal_digit 0 (lit< tt))
decimal_plain (suc n) lt =
    let f = first_decimal (suc n) (omega arith) lt in
    word_plain (decimal (suc n)) (decimal_nonempty (suc n) lt) (λ e. absurd (omega arith))

pub number_again : (low high n : ℕ) → high < 2 ^ 64 → low ≤ n → n ≤ high
    → number_read low high (decimal n) ≡ Some n
unfolding number_read
number_again low high n bound ge le =
    let lt : n < 2 ^ 64 = omega arith in
    rw (
      decimal_plain n lt,
      digits_decimal model n lt,
      digits_value-decimal model n lt,
      le-leb low n ge,
      le-leb n high le,
    ) refl

digits_all : (word : List ℕ) → all_ascii_digits word ≡ true → list_all is_ascii_digit word ≡ true
digits_all [] e = refl
digits_all (c ∷ word) e =
    let b = both (is_ascii_digit c) (all_ascii_digits word) e in
    rw b.0 (digits_all word b.1)

pub decimal_digits : (n : ℕ) → n < 2 ^ 64 → list_all is_ascii_digit (decimal n) ≡ true
decimal_digits n lt = digits_all (decimal n) (digits_decimal model n lt)
