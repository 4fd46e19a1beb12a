use Rattle.std.proofs.Common.{◌≡◌, ℕ, zero, suc, ◌^◌, pow-suc, ◌+◌, ◌-◌, ◌*◌, ◌<◌, ◌≤◌, List, [], ◌∷◌, length, drop, get_or, arith}
use Rattle.std.proofs.lemmas.List.{drop_more}
use Rattle.script.specs.inside.Readers.{value_on}

-- digits never make a number less
pub value_on_le : (n : ℕ) (digits : List ℕ) → n ≤ value_on n digits
value_on_le n [] = omega arith
value_on_le n (c ∷ digits) = omega (arith, value_on_le (n * 10 + (c - 48)) digits)

-- once a digit has made a number too great, it stays so
pub value_above : (n high : ℕ) (word : List ℕ) (i : ℕ) → i < length word
    → high < n * 10 + (get_or word i 0 - 48) → high < value_on n (drop i word)
value_above n high word i lt above =
    let le = value_on_le (n * 10 + (get_or word i 0 - 48)) (drop (i + 1) word) in
    rw (drop_more word i 0 lt) (omega (arith, le, above))

pub power_halved : (n : ℕ) → 0 < n → 2 ^ n ≡ 2 * 2 ^ (n - 1)
power_halved zero lt = absurd (omega arith)
power_halved (suc n) lt = let e : suc n - 1 ≡ n = omega arith in rw e (omega (arith, pow-suc 2 n))
