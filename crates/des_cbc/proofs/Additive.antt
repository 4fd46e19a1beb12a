-- Functions that go through exclusive or: two of them are equal where they agree on the powers of two.
use Rattle.std.proofs.Common.{◌≡◌, ℕ, zero, suc, ◌+◌, ◌-◌, ◌/◌, ◌%◌, ◌^◌, ◌<◌, Bool, true, false, nat_eq, ◌&&◌, List, [], ◌∷◌, ◌++◌, length, get_or, bit_xor, refl, sym, ap, ap₂, ◌∙◌, arith, shr-shr, suc-add, inl, inr}
use Rattle.std.proofs.Math.Nat.{two-pow-succ}
use Rattle.std.specs.Int.{bit_at}
use Rattle.std.specs.Int.Bits.{xor_shifted}
use Rattle.std.proofs.lemmas.Bool.{cases_lt}
use Rattle.std.proofs.lemmas.Nat.Bits.{bit_at_xor, bit_at-lt}
use Rattle.des_cbc.specs.Bits.{bits, xor_bit, xor_bits, permute}
use Rattle.des_cbc.specs.inside.CipherLaws.{and_left, and_right}

-- ---- exclusive or of numbers and of their bits

one_bit : (p q : ℕ) → p < 2 → q < 2 → nat_eq ((p + q) % 2) 1 ≡ xor_bit (nat_eq p 1) (nat_eq q 1)
one_bit zero zero h k = refl
one_bit zero (suc zero) h k = refl
one_bit (suc zero) zero h k = refl
one_bit (suc zero) (suc zero) h k = refl
one_bit zero (suc (suc q)) h k = absurd (omega arith)
one_bit (suc zero) (suc (suc q)) h k = absurd (omega arith)
one_bit (suc (suc p)) q h k = absurd (omega arith)

pub bits-bit_xor : (n x y : ℕ) → bits n (bit_xor x y) ≡ xor_bits (bits n x) (bits n y)
unfolding bits xor_bits
bits-bit_xor zero x y = refl
bits-bit_xor (suc n) x y =
    ap₂ (λ (b : Bool) (bs : List Bool). b ∷ bs)
    (ap (λ (m : ℕ). nat_eq m 1) (bit_at_xor x y n) ∙ one_bit (bit_at x n) (bit_at y n) (bit_at-lt x n) (bit_at-lt y n))
    (bits-bit_xor n x y)

pub bits-add : (m n x : ℕ) → bits (m + n) x ≡ bits m (x / 2 ^ n) ++ bits n x
unfolding bits
bits-add zero n x = ap (λ (k : ℕ). bits k x) (omega arith)
bits-add (suc m) n x =
    rw (suc-add m n)
    (ap₂ (λ (b : ℕ) (bs : List Bool). nat_eq (b % 2) 1 ∷ bs)
    (ap (λ (k : ℕ). x / 2 ^ k) (omega arith) ∙ sym (shr-shr x n m)) (bits-add m n x))

pub xor_bits-append : (a b c d : List Bool) → length a ≡ length b
    → xor_bits (a ++ c) (b ++ d) ≡ xor_bits a b ++ xor_bits c d
unfolding xor_bits
xor_bits-append [] [] c d h = refl
xor_bits-append [] (y ∷ b) c d h = absurd (omega arith)
xor_bits-append (x ∷ a) [] c d h = absurd (omega arith)
xor_bits-append (x ∷ a) (y ∷ b) c d h = ap (λ (bs : List Bool). xor_bit x y ∷ bs)
    (xor_bits-append a b c d (omega arith))

get_or-xor_bits : (a b : List Bool) (i : ℕ) → length a ≡ length b
    → get_or (xor_bits a b) i false ≡ xor_bit (get_or a i false) (get_or b i false)
unfolding xor_bits
get_or-xor_bits [] [] i h = refl
get_or-xor_bits [] (y ∷ b) i h = absurd (omega arith)
get_or-xor_bits (x ∷ a) [] i h = absurd (omega arith)
get_or-xor_bits (x ∷ a) (y ∷ b) zero h = refl
get_or-xor_bits (x ∷ a) (y ∷ b) (suc i) h = get_or-xor_bits a b i (omega arith)

pub permute-xor_bits : (t : List ℕ) (a b : List Bool) → length a ≡ length b
    → permute t (xor_bits a b) ≡ xor_bits (permute t a) (permute t b)
unfolding permute xor_bits
permute-xor_bits [] a b h = refl
permute-xor_bits (p ∷ t) a b h =
    ap₂ (λ (b : Bool) (bs : List Bool). b ∷ bs) (get_or-xor_bits a b (p - 1) h) (permute-xor_bits t a b h)

-- ---- functions that go through it

pub record Additive (f : ℕ → List Bool) : Type 0 where
  pub step : (x y : ℕ) → f (bit_xor x y) ≡ xor_bits (f x) (f y)

unfoldable pub same_bits : List Bool → List Bool → Bool
same_bits [] [] = true
same_bits [] (y ∷ b) = false
same_bits (x ∷ a) [] = false
same_bits (true ∷ a) (true ∷ b) = same_bits a b
same_bits (false ∷ a) (false ∷ b) = same_bits a b
same_bits (true ∷ a) (false ∷ b) = false
same_bits (false ∷ a) (true ∷ b) = false

pub same_bits-true : (a b : List Bool) → same_bits a b ≡ true → a ≡ b
unfolding same_bits
same_bits-true [] [] h = refl
same_bits-true [] (y ∷ b) h = absurd cc
same_bits-true (x ∷ a) [] h = absurd cc
same_bits-true (true ∷ a) (true ∷ b) h = ap (λ (bs : List Bool). true ∷ bs) (same_bits-true a b h)
same_bits-true (false ∷ a) (false ∷ b) h = ap (λ (bs : List Bool). false ∷ bs) (same_bits-true a b h)
same_bits-true (true ∷ a) (false ∷ b) h = absurd cc
same_bits-true (false ∷ a) (true ∷ b) h = absurd cc

-- f and g agree at 0 and at the first n powers of two
unfoldable pub agree : (ℕ → List Bool) → (ℕ → List Bool) → ℕ → Bool
agree f g zero = same_bits (f 0) (g 0)
agree f g (suc n) = same_bits (f (2 ^ n)) (g (2 ^ n)) && agree f g n

pub same_if_agree : (f g : ℕ → List Bool) → Additive f → Additive g → (n : ℕ) → agree f g n ≡ true → (x : ℕ)
    → x < 2 ^ n → f x ≡ g x
unfolding agree
same_if_agree f g df dg zero h x lt =
    let none : x ≡ 0 = omega arith in
    rw none (same_bits-true _ _ h)
same_if_agree f g df dg (suc n) h x lt =
    let here : f (2 ^ n) ≡ g (2 ^ n) = same_bits-true _ _ (and_left _ _ h) in
    let below : agree f g n ≡ true = and_right _ _ h in
    elim (cases_lt x (2 ^ n)) [
      | inl low ↦ same_if_agree f g df dg n below x low
      | inr high ↦
          let small : x - 2 ^ n < 2 ^ n = omega (arith, two-pow-succ n) in
          let sum : bit_xor (2 ^ n) (x - 2 ^ n) ≡ x =
          ap (λ (p : ℕ). bit_xor p (x - 2 ^ n)) (omega arith) ∙ xor_shifted 1 n (x - 2 ^ n) small ∙ omega arith in
          let rest = same_if_agree f g df dg n below (x - 2 ^ n) small in
          ap f (sym sum) ∙ df.step (2 ^ n) (x - 2 ^ n) ∙ ap₂ xor_bits here rest ∙ sym (dg.step (2 ^ n) (x - 2 ^ n))
          ∙ ap g sum
    ]
