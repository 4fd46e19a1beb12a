-- Keys without their parity bits, on words.
use Rattle.std.proofs.Common.{◌≡◌, ℕ, ◌<◌, ◌^◌, ◌%◌, Bool, true, false, List, [], ◌∷◌, bit_and, refl, sym, ap, ◌∙◌, arith, lit<}
use Rattle.std.specs.Int.Bits.{and_lt}
use Rattle.des_cbc.specs.Bits.{bits, number, xor_bits}
use Rattle.des_cbc.specs.inside.BitLaws.{number-bits}
use Rattle.des_cbc.specs.Parity.{without_parity}
use Rattle.des_cbc.proofs.Additive.{bits-bit_xor, same_bits, agree, same_if_agree}
use Rattle.des_cbc.proofs.Linear.{linear_and, additive_bits}

-- a word with its parity bits cleared
abbrev pub kept : ℕ → ℕ
kept x = bit_and x 0xfefefefefefefefe

-- a cleared bit after each seven
unfoldable filled : List Bool → List Bool
filled (a ∷ b ∷ c ∷ d ∷ e ∷ f ∷ g ∷ rest) = a ∷ b ∷ c ∷ d ∷ e ∷ f ∷ g ∷ false ∷ filled rest
filled _ = []

filled-xor : (x y : ℕ) → filled (without_parity (xor_bits (bits 64 x) (bits 64 y)))
    ≡ xor_bits (filled (without_parity (bits 64 x))) (filled (without_parity (bits 64 y)))
unfolding filled without_parity xor_bits bits
filled-xor x y = refl

kept_agrees : agree (λ x. bits 64 (kept x)) (λ x. filled (without_parity (bits 64 x))) 64 ≡ true
unfolding agree same_bits bits filled without_parity
kept_agrees = refl

kept_is : (x : ℕ) → x < 2 ^ 64 → bits 64 (kept x) ≡ filled (without_parity (bits 64 x))
kept_is x h =
    same_if_agree (λ x. bits 64 (kept x)) (λ x. filled (without_parity (bits 64 x)))
    (additive_bits 64 kept (linear_and 0xfefefefefefefefe))
    (record { step = λ x y. ap (λ (b : List Bool). filled (without_parity b)) (bits-bit_xor 64 x y) ∙ filled-xor x y })
    64 kept_agrees x h

filled_again : (x : ℕ) → without_parity (filled (without_parity (bits 64 x))) ≡ without_parity (bits 64 x)
unfolding filled without_parity bits
filled_again x = refl

without_kept : (x : ℕ) → x < 2 ^ 64 → without_parity (bits 64 (kept x)) ≡ without_parity (bits 64 x)
without_kept x h = ap without_parity (kept_is x h) ∙ filled_again x

-- words agree but for parity exactly where they do with the parity bits cleared
pub same_without : (x y : ℕ) → x < 2 ^ 64 → y < 2 ^ 64 → kept x ≡ kept y
    → without_parity (bits 64 x) ≡ without_parity (bits 64 y)
same_without x y hx hy e =
    sym (without_kept x hx) ∙ ap (λ (w : ℕ). without_parity (bits 64 w)) e ∙ without_kept y hy

pub same_kept : (x y : ℕ) → x < 2 ^ 64 → y < 2 ^ 64 → without_parity (bits 64 x) ≡ without_parity (bits 64 y)
    → kept x ≡ kept y
same_kept x y hx hy e =
    let numbers : kept x % 2 ^ 64 ≡ kept y % 2 ^ 64 =
    sym (number-bits 64 (kept x)) ∙ ap number (kept_is x hx ∙ ap filled e ∙ sym (kept_is y hy))
    ∙ number-bits 64 (kept y) in
    let small : kept x < 2 ^ 64 = and_lt 64 x 0xfefefefefefefefe hx (lit< tt) in
    let other : kept y < 2 ^ 64 = and_lt 64 y 0xfefefefefefefefe hy (lit< tt) in
    omega arith
