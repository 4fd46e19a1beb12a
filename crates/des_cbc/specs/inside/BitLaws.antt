-- Laws of lists of bits, and of the numbers and bytes that they spell.
use Rattle.std.proofs.Common.{◌≡◌, ℕ, zero, suc, ◌+◌, ◌*◌, ◌/◌, ◌%◌, ◌^◌, ◌<◌, ◌≤◌, Bool, true, false, cond, nat_eq, List, [], ◌∷◌, length, refl, sym, ap, ap₂, ◌∙◌, arith}
use Rattle.std.proofs.Math.Nat.{two-pow-succ, mod-one}
use Rattle.std.specs.Int.{w64, from_be_bytes}
use Rattle.std.proofs.lemmas.Nat.{mod-pow-add, mod_low, shr_high, from_be_bytes-to_be_bytes_8, be_bytes_8}
use Rattle.std.proofs.lemmas.Nat.Bits.{bit_at-lt, bit_at_cat_low}
use Rattle.std.specs.Int.{bit_at}
use Rattle.seal_core.specs.Blocks.{AreBytes, IsBlock}
use Rattle.des_cbc.specs.Bits.{bits, number, xor_bit, xor_bits, block_bits, block_bytes}

pub length-bits : (n x : ℕ) → length (bits n x) ≡ n
unfolding bits
length-bits zero x = refl
length-bits (suc n) x = ap suc (length-bits n x)

-- bits above the low n don't matter
pub bits-mod : (n k x : ℕ) → n ≤ k → bits n (x % 2 ^ k) ≡ bits n x
unfolding bits
bits-mod zero k x h = refl
bits-mod (suc n) k x h =
    ap₂ (λ (b : ℕ) (bs : List Bool). nat_eq b 1 ∷ bs)
    (sym (bit_at_cat_low (x / 2 ^ k) k (x % 2 ^ k) n (omega arith))
    ∙ ap (λ (y : ℕ). bit_at y n) (omega arith))
    (bits-mod n k x (omega arith))

-- ---- exclusive or

pub length-xor_bits : (a b : List Bool) → length a ≡ length b → length (xor_bits a b) ≡ length a
unfolding xor_bits
length-xor_bits [] b h = refl
length-xor_bits (x ∷ a) [] h = absurd (omega arith)
length-xor_bits (x ∷ a) (y ∷ b) h = ap suc (length-xor_bits a b (omega arith))

xor_bit-twice : (x y : Bool) → xor_bit (xor_bit x y) y ≡ x
xor_bit-twice true true = refl
xor_bit-twice true false = refl
xor_bit-twice false true = refl
xor_bit-twice false false = refl

pub xor_bits-twice : (a b : List Bool) → length a ≡ length b → xor_bits (xor_bits a b) b ≡ a
unfolding xor_bits
xor_bits-twice [] b h = refl
xor_bits-twice (x ∷ a) [] h = absurd (omega arith)
xor_bits-twice (x ∷ a) (y ∷ b) h =
    ap₂ (λ (c : Bool) (cs : List Bool). c ∷ cs) (xor_bit-twice x y)
    (xor_bits-twice a b (omega arith))

-- ---- numbers

bit_worth : (b p : ℕ) → b < 2 → cond (nat_eq b 1) p 0 ≡ b * p
bit_worth zero p h = omega arith
bit_worth (suc zero) p h = omega arith
bit_worth (suc (suc b)) p h = absurd (omega arith)

pub number-bits : (n x : ℕ) → number (bits n x) ≡ x % 2 ^ n
unfolding number bits
number-bits zero x = sym (mod-one x)
number-bits (suc n) x =
    let top : cond (nat_eq (x / 2 ^ n % 2) 1) (2 ^ length (bits n x)) 0 ≡ x / 2 ^ n % 2 * 2 ^ n =
    bit_worth (x / 2 ^ n % 2) (2 ^ length (bits n x)) (bit_at-lt x n)
    ∙ ap (λ (k : ℕ). x / 2 ^ n % 2 * 2 ^ k) (length-bits n x) in
    ap₂ (λ (a b : ℕ). a + b) top (number-bits n x) ∙ sym (mod-pow-add x 1 n)
    ∙ ap (λ (k : ℕ). x % 2 ^ k) (omega arith)

pub number-below : (bs : List Bool) → number bs < 2 ^ length bs
unfolding number
number-below [] = omega arith
number-below (true ∷ bs) = omega (arith, number-below bs, two-pow-succ (length bs))
number-below (false ∷ bs) = omega (arith, number-below bs, two-pow-succ (length bs))

low_bits : (n m b : ℕ) → m < 2 ^ n → bits n (b * 2 ^ n + m) ≡ bits n m
low_bits n m b h = sym (bits-mod n n (b * 2 ^ n + m) (omega arith)) ∙ ap (bits n) (mod_low b n m h)

-- a first bit of this worth before the others
first_bit : (bs : List Bool) (b : ℕ) → bits (length bs) (number bs) ≡ bs → (y : ℕ)
    → y ≡ b * 2 ^ length bs + number bs
    → bits (suc (length bs)) y ≡ nat_eq (b % 2) 1 ∷ bs
unfolding bits
first_bit bs b rest y e =
    ap₂ (λ (c : Bool) (cs : List Bool). c ∷ cs)
    (ap (λ (n : ℕ). nat_eq (n % 2) 1) (ap (λ (n : ℕ). n / 2 ^ length bs) e
    ∙ shr_high b (length bs) (number bs) (number-below bs)))
    (ap (bits (length bs)) e ∙ low_bits (length bs) (number bs) b (number-below bs) ∙ rest)

pub bits-number : (bs : List Bool) → bits (length bs) (number bs) ≡ bs
unfolding number bits
bits-number [] = refl
bits-number (true ∷ bs) = first_bit bs 1 (bits-number bs) (2 ^ length bs + number bs) (omega arith)
bits-number (false ∷ bs) = first_bit bs 0 (bits-number bs) (0 + number bs) (omega arith)

-- ---- blocks of bytes

word-mod : (b : List ℕ) → AreBytes b → from_be_bytes w64 b % 2 ^ 64 ≡ from_be_bytes w64 b
word-mod b h =
    let b0 = h.below 0 in
    let b1 = h.below 1 in
    let b2 = h.below 2 in
    let b3 = h.below 3 in
    let b4 = h.below 4 in
    let b5 = h.below 5 in
    let b6 = h.below 6 in
    let b7 = h.below 7 in
    omega arith

pub length-block_bits : (b : List ℕ) → length (block_bits b) ≡ 64
unfolding block_bits
length-block_bits b = length-bits 64 (from_be_bytes w64 b)

pub length-block_bytes : (bs : List Bool) → length (block_bytes bs) ≡ 8
unfolding block_bytes
length-block_bytes bs = refl

pub block_bits-block_bytes : (bs : List Bool) → length bs ≡ 64 → block_bits (block_bytes bs) ≡ bs
unfolding block_bits block_bytes
block_bits-block_bytes bs h =
    let fits : number bs < 2 ^ 64 = let f = number-below bs in rw h at f in
    ap (bits 64) (from_be_bytes-to_be_bytes_8 (number bs) fits)
    ∙ ap (λ (n : ℕ). bits n (number bs)) (sym h) ∙ bits-number bs

pub block_bytes-block_bits : (b : List ℕ) → IsBlock b → block_bytes (block_bits b) ≡ b
unfolding block_bits block_bytes
block_bytes-block_bits b h =
    be_bytes_8 b (number (bits 64 (from_be_bytes w64 b))) h.len h.bytes.below
    (number-bits 64 (from_be_bytes w64 b) ∙ word-mod b h.bytes)
