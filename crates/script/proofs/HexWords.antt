-- Messages and their hex digits.
use Rattle.std.proofs.Common.{zero, suc, ◌≡◌, ◌≢◌, ℕ, ◌+◌, ◌*◌, ◌/◌, ◌%◌, ◌<◌, Bool, true, false, not, eqb, ltb, ◌&&◌, ◌||◌, List, [], ◌∷◌, length, Option, Some, None, Result, Ok, Err, refl, sym, ap, subst, ◌∙◌, arith, inl, inr}
use Rattle.std.specs.Prelude.{codes, slice_index, unwrap_or}
use Rattle.std.specs.List.{list_all}
use Rattle.std.specs.Str.{bytes_eq}
use Rattle.std.proofs.lemmas.Bool.{cases_lt, cases_Bool, eqb-true, lt-ltb}
use Rattle.std.proofs.lemmas.Bool.Decides.{nat_tests}
use Rattle.std.proofs.lemmas.Slice.Eq.{bytes_eq-Decides}
use Rattle.hex.specs.declared.error.FromHexError.{FromHexError}
use Rattle.hex.specs.Hex.{lower_digits, encode_with, encode_lower, hex_digit_value, digit_or_error, value_at, pair_value, decode_pairs, decode_of, IsBytes, ◌>>=◌}
use Rattle.hex.proofs.HexLemmas.{decode_of-encode_lower, decode_of-even, decode_of-ok, length-encode_with}
use Rattle.events.specs.Words.{hex_word}
use Rattle.script.specs.inside.Readers.{hex_read, is_lower_digit, decoded}
use Rattle.script.proofs.Tools.{both, guard_other, some_same, is_ink, IsInk, weaker}

bind_ok : {A B : Type 0} (r : Result A FromHexError) (f : A → Result B FromHexError) (y : B)
    → (r >>= f) ≡ Ok y → (x : A) × (r ≡ Ok x) × (f x ≡ Ok y)
bind_ok (Ok x) f y e = (x, refl, e)
bind_ok (Err d) f y e = absurd cc

-- a test of each number below n, which computes
abbrev each_below : (ℕ → Bool) → ℕ → Bool
each_below p zero = true
each_below p (suc n) = p n && each_below p n

each_below-at : (p : ℕ → Bool) (n k : ℕ) → each_below p n ≡ true → k < n → p k ≡ true
each_below-at p zero k h lt = absurd (omega arith)
each_below-at p (suc n) k h lt =
    let parts = both (p n) (each_below p n) h in
    elim (cases_lt k n) [
      | inl less ↦ each_below-at p n k parts.1 less
      | inr top ↦ let e : k ≡ n = omega arith in rw e parts.0
    ]

-- whether a lower-case digit is the digit of its value
abbrev is_own_digit : ℕ → Bool
is_own_digit c = not (is_lower_digit c)
    || eqb (slice_index lower_digits (unwrap_or (hex_digit_value c) 16)) c

abbrev gives_lower : ℕ → Bool
gives_lower value = is_lower_digit (slice_index lower_digits value)

digit_least : (c : ℕ) → is_lower_digit c ≡ true → c < 103
digit_least c h = grind (arith, nat_tests)

value_read : (c i v : ℕ) (o : Option ℕ) → digit_or_error c i o ≡ Ok v → o ≡ Some v
value_read c i v (Some w) h = cc
value_read c i v None h = absurd cc

or_second : (a b : Bool) → (not a || b) ≡ true → a ≡ true → b ≡ true
or_second true b h e = h
or_second false b h e = absurd cc

digit_again : (c v : ℕ) → is_lower_digit c ≡ true → hex_digit_value c ≡ Some v
    → slice_index lower_digits v ≡ c
digit_again c v low e =
    let own = each_below-at is_own_digit 103 c refl (digit_least c low) in
    let same = or_second (is_lower_digit c)
    (eqb (slice_index lower_digits (unwrap_or (hex_digit_value c) 16)) c) own low in
    rw e at (eqb-true _ _ same)

value_small : (c v : ℕ) → hex_digit_value c ≡ Some v → v < 16
value_small c v h = grind (arith, nat_tests)

ok_same : {A : Type 0} (x y : A) → ◌≡◌ {A = Result A FromHexError} (Ok x) (Ok y) → x ≡ y
ok_same x y e = cc

-- lower-case digits, decoded and encoded, are the same digits
encoded_again : (i : ℕ) (digits bytes : List ℕ) → list_all is_lower_digit digits ≡ true
    → decode_pairs i digits ≡ Ok bytes → encode_with lower_digits bytes ≡ digits
unfolding decode_pairs encode_with
encoded_again i [] bytes low h = let e = ok_same [] bytes h in rw (← e) refl
encoded_again i (a ∷ []) bytes low h = absurd cc
encoded_again i (a ∷ b ∷ rest) bytes low h =
    let byte = bind_ok (pair_value a b i) _ bytes h in
    let first = bind_ok (value_at a i) _ byte.0 byte.1 in
    let second = bind_ok (value_at b (i + 1)) _ byte.0 first.2 in
    let more = bind_ok (decode_pairs (i + 2) rest) _ bytes byte.2 in
    let low_a = both (is_lower_digit a) (list_all is_lower_digit (b ∷ rest)) low in
    let low_b = both (is_lower_digit b) (list_all is_lower_digit rest) low_a.1 in
    let value_a = value_read a i first.0 (hex_digit_value a) first.1 in
    let value_b = value_read b (i + 1) second.0 (hex_digit_value b) second.1 in
    let small_a = value_small a first.0 value_a in
    let small_b = value_small b second.0 value_b in
    let sum : first.0 * 16 + second.0 ≡ byte.0 =
    ok_same (first.0 * 16 + second.0) byte.0 second.2 in
    let high : byte.0 / 16 ≡ first.0 = omega arith in
    let rest_of : byte.0 % 16 ≡ second.0 = omega arith in
    let others = encoded_again (i + 2) rest more.0 low_b.1 more.1 in
    let all : byte.0 ∷ more.0 ≡ bytes = ok_same (byte.0 ∷ more.0) bytes more.2 in
    let digit_a = digit_again a first.0 low_a.0 value_a in
    let digit_b = digit_again b second.0 low_b.0 value_b in
    rw (← all) (rw (high, rest_of, digit_a, digit_b, others) refl)

encoded_lower : (bytes : List ℕ) → IsBytes bytes
    → list_all is_lower_digit (encode_with lower_digits bytes) ≡ true
unfolding encode_with
encoded_lower [] fits = refl
encoded_lower (byte ∷ bytes) fits =
    let small = fits 0 in
    let high = each_below-at gives_lower 16 (byte / 16) refl (omega arith) in
    let low = each_below-at gives_lower 16 (byte % 16) refl (omega arith) in
    rw (high, low) (encoded_lower bytes (λ i. fits (suc i)))

some_decoded : (r : Result (List ℕ) FromHexError) (bytes : List ℕ) → decoded r ≡ Some bytes
    → r ≡ Ok bytes
some_decoded (Ok xs) bytes e = cc
some_decoded (Err d) bytes e = absurd cc

long_hex : (bytes : List ℕ) → 0 < length bytes → hex_word bytes ≡ encode_lower bytes
long_hex [] h = absurd (omega arith)
long_hex (byte ∷ bytes) h = refl

pub hex_takes : (word bytes : List ℕ) → hex_read word ≡ Some bytes → (word ≡ hex_word bytes)
    × IsBytes bytes
unfolding hex_read
hex_takes word bytes e =
    elim (cases_Bool (bytes_eq word (codes "-"))) [
      | inl is ↦
          let dash = (bytes_eq-Decides word (codes "-")).0 is in
          let none : [] ≡ bytes = some_same [] bytes (rw is at e) in
          subst (λ (x : List ℕ). (word ≡ hex_word x) × IsBytes x) none (dash, λ i. omega arith)
      | inr not ↦
          let e' = rw not at e in
          let g = guard_other (list_all is_lower_digit word && ltb 0 (length word))
          (decoded (decode_of word)) bytes e' in
          let some = both (list_all is_lower_digit word) (ltb 0 (length word)) g.0 in
          let d = some_decoded (decode_of word) bytes g.1 in
          let ok = decode_of-ok word bytes d in
          let long : 0 < length word = grind (arith, nat_tests) in
          let back = encoded_again 0 word bytes some.0 (sym (decode_of-even word ok.0) ∙ d) in
          (sym back ∙ sym (long_hex bytes (omega (arith, ok.2))), ok.3)
    ]

unequal : (a b : List ℕ) → length a ≢ length b → bytes_eq a b ≡ false
unequal a b ne =
    elim (cases_Bool (bytes_eq a b)) [
      | inl is ↦ absurd (ne (ap length ((bytes_eq-Decides a b).0 is)))
      | inr not ↦ not
    ]

pub hex_again : (bytes : List ℕ) → IsBytes bytes → hex_read (hex_word bytes) ≡ Some bytes
unfolding hex_read
hex_again [] fits = refl
hex_again (byte ∷ bytes) fits =
    let len = length-encode_with lower_digits (byte ∷ bytes) in
    let other = unequal (encode_lower (byte ∷ bytes)) (codes "-") (λ e. absurd (omega arith)) in
    let low = encoded_lower (byte ∷ bytes) fits in
    let long = lt-ltb 0 (length (encode_lower (byte ∷ bytes))) (omega arith) in
    rw (other, low, long, decode_of-encode_lower (byte ∷ bytes) fits) refl

-- the digits of some bytes
pub hex_digits : (bytes : List ℕ) → 0 < length bytes → IsBytes bytes
    → list_all is_lower_digit (hex_word bytes) ≡ true
hex_digits [] some fits = absurd (omega arith)
hex_digits (byte ∷ bytes) some fits = encoded_lower (byte ∷ bytes) fits

pub hex_ink : (bytes : List ℕ) → IsBytes bytes → IsInk (hex_word bytes)
hex_ink [] fits = refl
hex_ink (byte ∷ bytes) fits = weaker is_lower_digit is_ink (λ c h. grind (arith, nat_tests))
    (encode_lower (byte ∷ bytes)) (encoded_lower (byte ∷ bytes) fits)
