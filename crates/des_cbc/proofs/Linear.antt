-- Words that go through exclusive or.
use Rattle.std.proofs.Common.{◌≡◌, ℕ, zero, suc, ◌+◌, ◌*◌, ◌/◌, ◌%◌, ◌^◌, ◌<◌, List, min, bit_xor, bit_and, refl, sym, ap, ap₂, ◌∙◌, arith, pow_pos, add-zero}
use Rattle.std.specs.Int.{bit_at}
use Rattle.std.specs.Int.Bits.{xor_assoc}
use Rattle.std.proofs.lemmas.Nat.{xor_comm, xor_shr, xor_mod, xor_block}
use Rattle.std.proofs.lemmas.Nat.Bits.{bit_at_xor, bit_at_and, bit_at-lt, same_from_bits}
use Rattle.des_cbc.specs.Bits.{bits, permute}
use Rattle.des_cbc.specs.inside.BitLaws.{length-bits}
use Rattle.des_cbc.specs.inside.Words.{exchanged}
use Rattle.des_cbc.proofs.Additive.{Additive, bits-bit_xor, permute-xor_bits}

pub record Linear (f : ℕ → ℕ) : Type 0 where
  pub step : (x y : ℕ) → f (bit_xor x y) ≡ bit_xor (f x) (f y)

min_xor : (a b c : ℕ) → a < 2 → b < 2 → c < 2 → min ((a + b) % 2) c ≡ (min a c + min b c) % 2
min_xor a zero zero h k l = omega arith
min_xor a zero (suc zero) h k l = omega arith
min_xor a (suc zero) zero h k l = omega arith
min_xor a (suc zero) (suc zero) h k l = omega arith
min_xor a b (suc (suc c)) h k l = absurd (omega arith)
min_xor a (suc (suc b)) c h k l = absurd (omega arith)

bit_and-xor : (x y m : ℕ) → bit_and (bit_xor x y) m ≡ bit_xor (bit_and x m) (bit_and y m)
bit_and-xor x y m =
    same_from_bits _ _ (λ i.
    bit_at_and (bit_xor x y) m i ∙ ap (λ (n : ℕ). min n (bit_at m i)) (bit_at_xor x y i)
    ∙ min_xor (bit_at x i) (bit_at y i) (bit_at m i) (bit_at-lt x i) (bit_at-lt y i) (bit_at-lt m i)
    ∙ ap₂ (λ (p q : ℕ). (p + q) % 2) (sym (bit_at_and x m i)) (sym (bit_at_and y m i))
    ∙ sym (bit_at_xor (bit_and x m) (bit_and y m) i))

mul-xor : (x y k : ℕ) → bit_xor x y * 2 ^ k ≡ bit_xor (x * 2 ^ k) (y * 2 ^ k)
mul-xor x y k =
    sym (add-zero _) ∙ sym (xor_block k x y 0 0 (pow_pos k) (pow_pos k))
    ∙ ap₂ bit_xor (add-zero (x * 2 ^ k)) (add-zero (y * 2 ^ k))

xor-four : (a b c d : ℕ) → bit_xor (bit_xor a b) (bit_xor c d) ≡ bit_xor (bit_xor a c) (bit_xor b d)
xor-four a b c d =
    xor_assoc a b (bit_xor c d)
    ∙ ap (bit_xor a) (sym (xor_assoc b c d) ∙ ap (λ (x : ℕ). bit_xor x d) (xor_comm b c) ∙ xor_assoc c b d)
    ∙ sym (xor_assoc a c (bit_xor b d))

pub linear_same : Linear (λ x. x)
linear_same = record { step = λ x y. refl }

pub linear_shr : (k : ℕ) → Linear (λ x. x / 2 ^ k)
linear_shr k = record { step = λ x y. xor_shr x y k }

pub linear_shl : (k w : ℕ) → Linear (λ x. x * 2 ^ k % 2 ^ w)
linear_shl k w = record { step = λ x y. ap (λ (n : ℕ). n % 2 ^ w) (mul-xor x y k) ∙ xor_mod (x * 2 ^ k) (y * 2 ^ k) w }

pub linear_and : (m : ℕ) → Linear (λ x. bit_and x m)
linear_and m = record { step = λ x y. bit_and-xor x y m }

pub linear_sum : (f g : ℕ → ℕ) → Linear f → Linear g → Linear (λ x. bit_xor (f x) (g x))
linear_sum f g df dg =
    record { step = λ x y. ap₂ bit_xor (df.step x y) (dg.step x y) ∙ xor-four (f x) (f y) (g x) (g y) }

pub linear_then : (f g : ℕ → ℕ) → Linear f → Linear g → Linear (λ x. g (f x))
linear_then f g df dg = record { step = λ x y. ap g (df.step x y) ∙ dg.step (f x) (f y) }

pub linear_shr_and : (k m : ℕ) → Linear (λ x. bit_and (x / 2 ^ k) m)
linear_shr_and k m = linear_then (λ x. x / 2 ^ k) (λ x. bit_and x m) (linear_shr k) (linear_and m)

pub linear_shl_and : (k m : ℕ) → Linear (λ x. bit_and (x * 2 ^ k % 2 ^ 64) m)
linear_shl_and k m = linear_then (λ x. x * 2 ^ k % 2 ^ 64) (λ x. bit_and x m) (linear_shl k 64) (linear_and m)

pub linear_exchanged : (k m : ℕ) → Linear (exchanged k m)
linear_exchanged k m =
    let near : Linear (λ x. bit_xor x (x / 2 ^ k)) = linear_sum (λ x. x) (λ x. x / 2 ^ k) linear_same (linear_shr k) in
    let moved : Linear (λ x. bit_and (bit_xor x (x / 2 ^ k)) m) =
    linear_then (λ x. bit_xor x (x / 2 ^ k)) (λ x. bit_and x m) near (linear_and m) in
    let up : Linear (λ x. bit_and (bit_xor x (x / 2 ^ k)) m * 2 ^ k % 2 ^ 64) =
    linear_then (λ x. bit_and (bit_xor x (x / 2 ^ k)) m) (λ x. x * 2 ^ k % 2 ^ 64) moved (linear_shl k 64) in
    linear_sum (λ x. bit_xor x (bit_and (bit_xor x (x / 2 ^ k)) m))
    (λ x. bit_and (bit_xor x (x / 2 ^ k)) m * 2 ^ k % 2 ^ 64)
    (linear_sum (λ x. x) (λ x. bit_and (bit_xor x (x / 2 ^ k)) m) linear_same moved) up

-- ---- their bits

pub additive_bits : (n : ℕ) (f : ℕ → ℕ) → Linear f → Additive (λ x. bits n (f x))
additive_bits n f df = record { step = λ x y. ap (bits n) (df.step x y) ∙ bits-bit_xor n (f x) (f y) }

pub additive_permute : (n : ℕ) (t : List ℕ) → Additive (λ x. permute t (bits n x))
additive_permute n t =
    record {
      step = λ x y.
          ap (permute t) (bits-bit_xor n x y) ∙ permute-xor_bits t (bits n x) (bits n y)
          (length-bits n x ∙ sym (length-bits n y));
    }
