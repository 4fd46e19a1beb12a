-- Words of so many bytes.
use Rattle.std.proofs.Common.{◌≡◌, ℕ, ◌/◌, ◌%◌, ◌<◌, true, false, eqb, List, [], ◌∷◌, length, cond, None, Result, Ok, Err, refl, arith, inl, inr}
use Rattle.std.specs.Prelude.{codes}
use Rattle.std.specs.List.{list_all}
use Rattle.std.specs.Str.{bytes_eq}
use Rattle.std.proofs.lemmas.Bool.{cases_Bool, lt-ltb}
use Rattle.std.proofs.lemmas.Bool.Decides.{nat_tests}
use Rattle.std.proofs.lemmas.Slice.Eq.{bytes_eq-Decides}
use Rattle.hex.specs.declared.error.FromHexError.{FromHexError}
use Rattle.hex.specs.declared.error.FromHexError.TheVariants.{InvalidStringLength}
use Rattle.hex.specs.Hex.{decode_pairs, decode_sized}
use Rattle.hex.proofs.HexLemmas.{decode_pairs-ok}
use Rattle.script.specs.Naming.{◌>>=◌}
use Rattle.script.specs.inside.Readers.{is_lower_digit, decoded, sized, hex_read, sized_read}

no_dash : (word : List ℕ) → list_all is_lower_digit word ≡ true → bytes_eq word (codes "-") ≡ false
no_dash word low =
    elim (cases_Bool (bytes_eq word (codes "-"))) [
      | inl is ↦
          let dash = (bytes_eq-Decides word (codes "-")).0 is in
          let low' : list_all is_lower_digit (codes "-") ≡ true = rw dash at low in
          absurd cc
      | inr not ↦ not
    ]

-- so many bytes, of digits that decode to some
sized_ok : (n : ℕ) (word : List ℕ) (r : Result (List ℕ) FromHexError) → decode_pairs 0 word ≡ r
    → (decoded r >>= sized n)
    ≡ decoded (cond (eqb (length word / 2) n) r (Err InvalidStringLength))
sized_ok n word (Ok bytes) e =
    let len = (decode_pairs-ok 0 word bytes e).1 in
    let same : length word / 2 ≡ length bytes = omega arith in
    rw same (grind (arith, nat_tests))
sized_ok n word (Err why) e = grind (arith, nat_tests)

-- lower-case digits are so many bytes where they decode to so many
pub sized_digits : (n : ℕ) (word : List ℕ) → 0 < n → list_all is_lower_digit word ≡ true
    → sized_read n word ≡ decoded (decode_sized word n)
unfolding sized_read hex_read
sized_digits n [] some low = grind (arith, nat_tests)
sized_digits n (c ∷ word) some low =
    let long = lt-ltb 0 (length (c ∷ word)) (omega arith) in
    elim (cases_Bool (eqb (length (c ∷ word) % 2) 1)) [
      | inl odd ↦ rw (no_dash (c ∷ word) low, low, long, odd) refl
      | inr even ↦
          rw (no_dash (c ∷ word) low, low, long, even)
          (sized_ok n (c ∷ word) (decode_pairs 0 (c ∷ word)) refl)
    ]

-- a word of other characters is none of some bytes
pub sized_other : (n : ℕ) (word : List ℕ) → 0 < n → list_all is_lower_digit word ≡ false
    → sized_read n word ≡ None
unfolding sized_read hex_read
sized_other n word some other =
    let none : eqb 0 n ≡ false = grind (arith, nat_tests) in
    elim (cases_Bool (bytes_eq word (codes "-"))) [
      | inl is ↦ rw (is, none) refl
      | inr not ↦ rw (not, other) refl
    ]
