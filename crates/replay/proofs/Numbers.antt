-- Numbers and the words that spell them.
use Rattle.std.proofs.Common.{zero, suc, lit<, ◌≡◌, ◌≢◌, ℕ, ◌+◌, ◌^◌, ◌<◌, ◌≤◌, Bool, true, false, cond, eqb, not, ◌&&◌, List, [], ◌∷◌, length, drop, get_or, Some, None, refl, sym, ◌∙◌, ap, subst, arith, rules}
use Rattle.std.specs.Prelude.{find, Result, Ok, Err}
use Rattle.std.specs.List.{range_with_len}
use Rattle.std.specs.Str.{bytes_eq, all_ascii_digits}
use Rattle.std.specs.Char.{is_ascii_digit}
use Rattle.std.specs.Fmt.{decimal}
use Rattle.std.specs.Str.Parse.{AllDigits, IsNumeral, digits_value, without_leading_plus, ParsesUnsigned}
use Rattle.std.proofs.lemmas.Bool.Decides.{nat_tests}
use Rattle.std.proofs.lemmas.Slice.Eq.{bytes_eq-Decides}
use Rattle.std.proofs.lemmas.Str.Parse.{IsNumeralModel, numerals_by_value}
use Rattle.std.proofs.lemmas.Fmt.{parse-decimal, digits_decimal, decimal-digits_value, decimal_nonempty, decimal_injective, first_decimal, decimal_digit}
use Rattle.replay.specs.Words.{number_spelled}
use Rattle.replay.specs.inside.Commands.{is_plain}

-- ---- the search for a number

-- the one number of a range that passes a test is found
find_one : (p : ℕ → Bool) (a n x : ℕ) → a ≤ x → x < a + n → p x ≡ true
    → ((j : ℕ) → j < a + n → p j ≡ true → j ≡ x) → find p (range_with_len a n) ≡ Some x
find_one p a zero x least less holds one = absurd (omega arith)
find_one p a (suc n) x least less holds one =
    by (λ more. find_one p (a + 1) n x more (omega arith) holds (λ j small. one j (omega arith))) (p a) refl
  where
    by : (a + 1 ≤ x → find p (range_with_len (a + 1) n) ≡ Some x) → (b : Bool) → p a ≡ b
        → find p (range_with_len a (suc n)) ≡ Some x
    by rest true h = rw h (ap Some (one a (omega arith) h))
    by rest false h =
        let apart : a ≢ x = λ e. (let k : ⊥ = cc in k) in
        rw h (rest (omega (arith, apart)))

-- and where none passes, none is found
find_none : (p : ℕ → Bool) (a n : ℕ) → ((j : ℕ) → j < a + n → p j ≡ false)
    → find p (range_with_len a n) ≡ None
find_none p a zero none = refl
find_none p a (suc n) none =
    let rest = find_none p (a + 1) n (λ j small. none j (omega arith)) in
    rw (none a (omega arith)) rest

same_true : (word other : List ℕ) → word ≡ other → bytes_eq word other ≡ true
same_true word other e = (bytes_eq-Decides word other).1 e

true_same : (word other : List ℕ) → bytes_eq word other ≡ true → word ≡ other
true_same word other e = (bytes_eq-Decides word other).0 e

other_false : (b : Bool) → (b ≡ true → ⊥) → b ≡ false
other_false true h = absurd (h refl)
other_false false h = refl

-- a word that spells a number
spelled_some : (most n : ℕ) (word : List ℕ) → most < 2 ^ 63 → n ≤ most → word ≡ decimal n
    → number_spelled most word ≡ Some n
unfolding number_spelled
spelled_some most n word bound le is =
    find_one (λ m. bytes_eq word (decimal m)) 0 (most + 1) n (omega arith) (omega arith)
    (same_true word (decimal n) is)
    (λ j small t. decimal_injective j n (omega arith) (omega arith) (sym (true_same word (decimal j) t) ∙ is))

-- a word that spells none
spelled_none : (most : ℕ) (word : List ℕ) → ((n : ℕ) → n ≤ most → word ≢ decimal n)
    → number_spelled most word ≡ None
unfolding number_spelled
spelled_none most word none =
    find_none (λ m. bytes_eq word (decimal m)) 0 (most + 1)
    (λ j small. other_false (bytes_eq word (decimal j)) (λ t. none j (omega arith) (true_same word (decimal j) t)))

-- ---- plain words

value_model : IsNumeralModel (AllDigits 10) (digits_value 10)
value_model = record { to = λ ds p. p; from = λ ds p. p; same = λ ds p. refl }

ascii_model : IsNumeralModel (λ digits. all_ascii_digits digits ≡ true) (digits_value 10)
ascii_model = numerals_by_value _ (search rules)

left : (a b : Bool) → (a && b) ≡ true → a ≡ true
left true b h = refl
left false b h = h

right : (a b : Bool) → (a && b) ≡ true → b ≡ true
right true b h = h
right false b h = absurd cc

not_plus : (c : ℕ) (more : List ℕ) → is_ascii_digit c ≡ true → without_leading_plus (c ∷ more) ≡ c ∷ more
not_plus c more h =
    let other : eqb c 43 ≡ false = grind (arith, nat_tests) in
    ap (λ (b : Bool). drop (cond b 1 0) (c ∷ more)) other

plain_front : (word : List ℕ) → is_plain word ≡ true
    → (without_leading_plus word ≡ word) × (0 < length word) × (get_or word 0 0 ≡ 48 → length word ≡ 1)
plain_front [] h = absurd cc
plain_front (c ∷ []) h = (not_plus c [] h, omega arith, λ _. refl)
plain_front (c ∷ d ∷ more) h =
    let digit = left (is_ascii_digit c) (not (eqb c 48)) h in
    let other = right (is_ascii_digit c) (not (eqb c 48)) h in
    (not_plus c (d ∷ more) digit, omega arith, λ e. absurd (grind (arith, nat_tests)))

-- a number is spelled by a plain word
front_plain : (word : List ℕ) → 0 < length word → all_ascii_digits word ≡ true → 48 < get_or word 0 0
    → is_plain word ≡ true
front_plain [] some digits lead = absurd (omega arith)
front_plain (c ∷ []) some digits lead = left (is_ascii_digit c) true digits
front_plain (c ∷ d ∷ more) some digits lead =
    let digit = left (is_ascii_digit c) (all_ascii_digits (d ∷ more)) digits in
    let other : eqb c 48 ≡ false = grind (arith, nat_tests) in
    rw (digit, other) refl

decimal_plain : (n : ℕ) → n < 2 ^ 64 → is_plain (decimal n) ≡ true
decimal_plain zero lt = ap is_plain (decimal_digit 0 (lit< tt))
decimal_plain (suc n) lt = front_plain (decimal (suc n)) (decimal_nonempty (suc n) lt)
    (digits_decimal ascii_model (suc n) lt) (first_decimal (suc n) (omega arith) lt)

pub not_plain : (most : ℕ) (word : List ℕ) → most < 2 ^ 63 → is_plain word ≡ false → number_spelled most word ≡ None
not_plain most word bound h = spelled_none most word
    (λ n le is. (let p = decimal_plain n (omega arith) in
    let q = ap is_plain is in let k : ⊥ = cc in k))

-- ---- what is parsed

pub parsed : {E : Type 0} (most n : ℕ) (word : List ℕ) (r : Result ℕ E) → most < 2 ^ 63 → is_plain word ≡ true
    → ParsesUnsigned 32 10 word r → r ≡ Ok n → n ≤ most → number_spelled most word ≡ Some n
parsed {E} most n word r bound plain parses is le =
    let front = plain_front word plain in
    let at = subst (λ (s : Result ℕ E). ParsesUnsigned 32 10 word s) is parses in
    let digits : IsNumeral 10 word = subst (IsNumeral 10) front.0 at.0.0 in
    let value : n ≡ digits_value 10 word = at.1 ∙ ap (digits_value 10) front.0 in
    let spelled = decimal-digits_value value_model word digits.1 front.1 front.2 (omega arith) in
    spelled_some most n word bound le (sym spelled ∙ ap decimal (sym value))

pub not_parsed : {E : Type 0} (most : ℕ) (word : List ℕ) (r : Result ℕ E) → most < 2 ^ 32
    → ParsesUnsigned 32 10 word r → ((n : ℕ) → r ≡ Ok n → n ≤ most → ⊥) → number_spelled most word ≡ None
not_parsed most word r bound parses none = spelled_none most word
    (λ n le is. none n (parse-decimal 32 n word r (omega arith) (omega arith) is parses) le)

pub ok_same : {E : Type 0} (r : Result ℕ E) (n m most : ℕ) → r ≡ Ok n → r ≡ Ok m → n ≤ most → most < m → ⊥
ok_same r n m most a b le more = let e : n ≡ m = cc in omega (arith, e)

pub ok_apart : {E : Type 0} (r : Result ℕ E) (n : ℕ) (e : E) → r ≡ Ok n → r ≡ Err e → ⊥
ok_apart r n e a b = cc
