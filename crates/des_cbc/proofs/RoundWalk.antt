-- The rounds on words, two at a time.
use Rattle.std.proofs.Common.{◌≡◌, ℕ, zero, suc, ◌+◌, ◌*◌, ◌/◌, ◌%◌, ◌^◌, ◌<◌, Bool, List, [], ◌∷◌, ◌++◌, map, length, take, drop, get_or, bit_xor, bit_and, bit_or, refl, sym, ap, ap₂, ◌∙◌, arith, take_at, drop_at, length-drop}
use Rattle.std.specs.Int.Bits.{and_mask, or_shifted}
use Rattle.std.proofs.lemmas.List.{length-map}
use Rattle.std.proofs.lemmas.Nat.{mod_low, shr_high}
use Rattle.des_cbc.specs.Tables.{initial, inverse_initial}
use Rattle.des_cbc.specs.Bits.{bits, xor_bits, permute}
use Rattle.des_cbc.specs.Cipher.{cipher_function, Halves, round, rounds, input_halves, output_block, cipher}
use Rattle.des_cbc.specs.inside.BitLaws.{length-bits, bits-mod}
use Rattle.des_cbc.specs.inside.CipherLaws.{inverse_initial-initial, initial-inverse_initial}
use Rattle.des_cbc.specs.inside.Words.{round_key, unpermuted}
use Rattle.des_cbc.proofs.Additive.{bits-bit_xor, bits-add, permute-xor_bits}

-- two words as the halves of a block
abbrev pub halves : ℕ → ℕ → Halves
halves l r = record { left = bits 32 l; right = bits 32 r }

one_round : (l r m : ℕ) (k : List Bool) → bits 32 m ≡ cipher_function (bits 32 r) k
    → round k (halves l r) ≡ halves r (bit_xor l m)
one_round l r m k h =
    ap (λ (x : List Bool). let s : Halves = record { left = bits 32 r; right = x } in s)
    (ap (xor_bits (bits 32 l)) (sym h) ∙ sym (bits-bit_xor 32 l m))

two_rounds : (k j : List Bool) (ks : List (List Bool)) (l r m n : ℕ) → bits 32 m ≡ cipher_function (bits 32 r) k
    → bits 32 n ≡ cipher_function (bits 32 (bit_xor l m)) j
    → rounds (k ∷ (j ∷ ks)) (halves l r) ≡ rounds ks (halves (bit_xor l m) (bit_xor r n))
unfolding rounds
two_rounds k j ks l r m n hm hn =
    ap (λ (h : Halves). rounds ks (round j h)) (one_round l r m k hm)
    ∙ ap (rounds ks) (one_round r (bit_xor l m) n j hn)

next_key : (ks : List ℕ) (i : ℕ) → i < length ks
    → drop i (map round_key ks) ≡ round_key (get_or ks i 0) ∷ drop (i + 1) (map round_key ks)
next_key [] i h = absurd (omega arith)
next_key (k ∷ ks) zero h = refl
next_key (k ∷ ks) (suc i) h =
    let more : suc i + 1 ≡ suc (i + 1) = omega arith in
    rw more (next_key ks i (omega arith))

-- two rounds more
pub forward : (ks : List ℕ) (i l r m n : ℕ) → length ks ≡ 16 → i < 8
    → bits 32 m ≡ cipher_function (bits 32 r) (round_key (get_or ks (2 * i) 0))
    → bits 32 n ≡ cipher_function (bits 32 (bit_xor l m)) (round_key (get_or ks (2 * i + 1) 0))
    → rounds (drop (2 * (i + 1)) (map round_key ks)) (halves (bit_xor l m) (bit_xor r n))
    ≡ rounds (drop (2 * i) (map round_key ks)) (halves l r)
forward ks i l r m n lk lt hm hn =
    let e = next_key ks (2 * i) (omega arith) in
    let f = next_key ks (2 * i + 1) (omega arith) in
    let g : 2 * i + 1 + 1 ≡ 2 * (i + 1) = omega arith in
    rw (e, f, g) (sym (two_rounds _ _ _ l r m n hm hn))

two_halves : (y : ℕ) → bits 64 y ≡ bits 32 (y / 2 ^ 32) ++ bits 32 y
two_halves y = bits-add 32 32 y

low_half : (y : ℕ) → bits 32 (bit_and y 0xffffffff) ≡ bits 32 y
low_half y = ap (bits 32) (and_mask y 32) ∙ bits-mod 32 32 y (omega arith)

input_is : (b : List Bool) (y : ℕ) → bits 64 y ≡ permute initial b
    → halves (y / 2 ^ 32) (bit_and y 0xffffffff) ≡ input_halves b
input_is b y h =
    let cut : permute initial b ≡ bits 32 (y / 2 ^ 32) ++ bits 32 y = sym h ∙ two_halves y in
    let first : take 32 (permute initial b) ≡ bits 32 (y / 2 ^ 32) =
    ap (take 32) cut ∙ take_at (bits 32 (y / 2 ^ 32)) (bits 32 y) 32 (length-bits 32 (y / 2 ^ 32)) in
    let second : drop 32 (permute initial b) ≡ bits 32 y =
    ap (drop 32) cut ∙ drop_at (bits 32 (y / 2 ^ 32)) (bits 32 y) 32 (length-bits 32 (y / 2 ^ 32)) in
    ap₂ (λ (l r : List Bool). let s : Halves = record { left = l; right = r } in s) (sym first)
    (low_half y ∙ sym second)

joined_halves : (l r : ℕ) → l < 2 ^ 32 → r < 2 ^ 32 → bits 64 (bit_or (r * 2 ^ 32 % 2 ^ 64) l) ≡ bits 32 r ++ bits 32 l
joined_halves l r hl hr =
    let whole : r * 2 ^ 32 % 2 ^ 64 ≡ r * 2 ^ 32 = omega arith in
    let sum : bit_or (r * 2 ^ 32 % 2 ^ 64) l ≡ r * 2 ^ 32 + l = ap (λ (x : ℕ). bit_or x l) whole
    ∙ or_shifted r 32 l hl in
    let high : (r * 2 ^ 32 + l) / 2 ^ 32 ≡ r = shr_high r 32 l hl in
    let low : (r * 2 ^ 32 + l) % 2 ^ 32 ≡ l = mod_low r 32 l hl in
    ap (bits 64) sum ∙ two_halves (r * 2 ^ 32 + l)
    ∙ ap₂ (λ (a b : List Bool). a ++ b) (ap (bits 32) high)
    (sym (bits-mod 32 32 (r * 2 ^ 32 + l) (omega arith)) ∙ ap (bits 32) low)

no_rounds : (ks : List (List Bool)) (h : Halves) → length ks ≡ 0 → rounds ks h ≡ h
unfolding rounds
no_rounds [] h e = refl
no_rounds (k ∷ ks) h e = absurd (omega arith)

-- after the last rounds the halves are the output
pub output_is : (ks : List ℕ) (i : ℕ) (b : List Bool) (y l r : ℕ) → length ks ≡ 16 → i ≡ 8
    → bits 64 y ≡ permute initial b → l < 2 ^ 32 → r < 2 ^ 32
    → rounds (drop (2 * i) (map round_key ks)) (halves l r)
    ≡ rounds (map round_key ks) (halves (y / 2 ^ 32) (bit_and y 0xffffffff))
    → unpermuted (bit_or (r * 2 ^ 32 % 2 ^ 64) l) ≡ cipher (map round_key ks) b
unfolding cipher
output_is ks i b y l r lk hi hy hl hr e =
    let none : length (drop (2 * i) (map round_key ks)) ≡ 0 =
    omega (arith, length-drop (2 * i) (map round_key ks), length-map ks round_key) in
    ap (permute inverse_initial) (joined_halves l r hl hr)
    ∙ ap output_block (sym (no_rounds _ (halves l r) none) ∙ e)
    ∙ ap (λ (h : Halves). output_block (rounds (map round_key ks) h)) (input_is b y hy)

-- a block that is permuted, and then back
pub unpermuted_is : (x y : ℕ) → bits 64 y ≡ permute initial (bits 64 x) → unpermuted y ≡ bits 64 x
unpermuted_is x y h = ap (permute inverse_initial) h ∙ inverse_initial-initial (bits 64 x) (length-bits 64 x)

pub permuted_again : (y : ℕ) → bits 64 y ≡ permute initial (unpermuted y)
permuted_again y = sym (initial-inverse_initial (bits 64 y) (length-bits 64 y))

pub unpermuted-xor : (x y : ℕ) → unpermuted (bit_xor x y) ≡ xor_bits (unpermuted x) (unpermuted y)
unpermuted-xor x y =
    ap (permute inverse_initial) (bits-bit_xor 64 x y)
    ∙ permute-xor_bits inverse_initial (bits 64 x) (bits 64 y) (length-bits 64 x ∙ sym (length-bits 64 y))
