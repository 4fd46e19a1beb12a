-- The decimal digits of a number, put into a row from the last one on.
use Rattle.std.proofs.Common.{◌≡◌, ℕ, zero, suc, ◌+◌, ◌-◌, ◌/◌, ◌%◌, ◌^◌, ◌<◌, ◌≤◌, List, [], ◌∷◌, ◌++◌, length, drop, ap, sym, ◌∙◌, append_assoc, arith}
use Rattle.std.specs.Prelude.{slice_set}
use Rattle.std.specs.Fmt.{decimal}
use Rattle.std.proofs.lemmas.Fmt.{decimal_digit, decimal_step}
use Rattle.std.proofs.lemmas.List.{drop-set}

-- without its last digit a number of several digits has one digit less
pub one_place_fewer : (n i : ℕ) → 10 ≤ n → n < 10 ^ (i + 1) → (0 < i) × (n / 10 < 10 ^ (i - 1 + 1))
one_place_fewer n zero many fits = absurd (omega arith)
one_place_fewer n (suc i) many fits =
    let before : suc i + 1 ≡ suc (suc i) = omega arith in
    let after : suc i - 1 + 1 ≡ suc i = omega arith in
    let below : n < 10 ^ suc (suc i) = rw before at fits in
    (omega arith, rw after (omega (arith, below)))

-- its last digit is put before the digits behind it
pub last_digit_put : (n i : ℕ) (row : List ℕ) → 10 ≤ n → n < 2 ^ 64 → i < length row
    → decimal (n / 10) ++ drop i (slice_set row i (48 + n % 10)) ≡ decimal n ++ drop (i + 1) row
last_digit_put n i row many fits within =
    ap (λ ds. decimal (n / 10) ++ ds) (drop-set row i (48 + n % 10) within)
    ∙ sym (append_assoc (decimal (n / 10)) ((48 + n % 10) ∷ []) (drop (i + 1) row))
    ∙ ap (λ ds. ds ++ drop (i + 1) row) (sym (decimal_step n many fits))

-- and the one digit of a small number
pub only_digit_put : (n i : ℕ) (row : List ℕ) → n < 10 → i < length row
    → drop i (slice_set row i (48 + n)) ≡ decimal n ++ drop (i + 1) row
only_digit_put n i row small within =
    drop-set row i (48 + n) within ∙ ap (λ ds. ds ++ drop (i + 1) row) (sym (decimal_digit n small))
