-- Sets of categories as bits.
use Rattle.std.proofs.Common.{◌≡◌, ℕ, zero, suc, ◌*◌, ◌^◌, ◌<◌, refl, sym, ◌∙◌, ap, ◌⊎◌, inl, inr, arith}
use Rattle.std.specs.Prelude.{bit_and, IsBitSet, min}
use Rattle.std.specs.Int.{bit_at}
use Rattle.std.proofs.lemmas.Nat.{pow_pos}
use Rattle.std.proofs.lemmas.Nat.Bits.{and_pow, bit_at_and, bit_at-lt, same_from_bits}

-- a number below 2 is 0 or 1
two_cases : (b : ℕ) → b < 2 → (b ≡ 0) ⊎ (b ≡ 1)
two_cases zero h = inl refl
two_cases (suc b) h = inr (omega arith)

zero_times : (p : ℕ) → 0 * p ≡ 0
zero_times p = omega arith

-- a bit is set where it is 1
set_is : (n k : ℕ) → IsBitSet n k → bit_at n k ≡ 1
set_is n k h =
    elim (two_cases (bit_at n k) (bit_at-lt n k)) [
      | inl none ↦ absurd (h (and_pow n k ∙ ap (λ b. b * 2 ^ k) none ∙ zero_times (2 ^ k)))
      | inr one ↦ one
    ]

is_set : (n k : ℕ) → bit_at n k ≡ 1 → IsBitSet n k
is_set n k h e =
    let p : 2 ^ k ≡ 0 = omega (arith, sym (and_pow n k ∙ ap (λ b. b * 2 ^ k) h) ∙ e) in
    omega (arith, pow_pos k)

pub subset-from_and : (a b : ℕ) → bit_and a b ≡ a → (k : ℕ) → IsBitSet a k → IsBitSet b k
subset-from_and a b h k set =
    let one : bit_at a k ≡ 1 = set_is a k set in
    let both : bit_at a k ≡ min (bit_at a k) (bit_at b k) = ap (λ n. bit_at n k) (sym h) ∙ bit_at_and a b k in
    is_set b k (omega (arith, bit_at-lt b k))

pub and-from_subset : (a b : ℕ) → ((k : ℕ) → IsBitSet a k → IsBitSet b k) → bit_and a b ≡ a
and-from_subset a b h =
    same_from_bits _ _ (λ k. bit_at_and a b k
    ∙ elim (two_cases (bit_at a k) (bit_at-lt a k)) [
      | inl none ↦ omega arith
      | inr one ↦ (let other : bit_at b k ≡ 1 = set_is b k (h k (is_set a k one)) in omega arith)
    ])
