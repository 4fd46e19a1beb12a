-- Deciphering undoes enciphering, and the other way round.
use Rattle.std.proofs.Common.{◌≡◌, ℕ, zero, suc, ◌+◌, ◌-◌, ◌<◌, ◌≤◌, Bool, true, false, ◌&&◌, nat_lt, ltb-true, List, [], ◌∷◌, ◌++◌, length, take, drop, reverse, get_or, take-append-drop, drop-cons, refl, sym, ap, ap₂, ◌∙◌, arith}
use Rattle.std.specs.List.{range_with_len}
use Rattle.std.proofs.lemmas.List.{reverse-append, reverse-reverse, take_all, take_at, drop_at, length-append, length-take-le, length-drop}
use Rattle.seal_core.specs.Blocks.{IsBlock}
use Rattle.des_cbc.specs.Tables.{initial, inverse_initial, primitive}
use Rattle.des_cbc.specs.Bits.{permute, block_bits, block_bytes}
use Rattle.des_cbc.specs.Cipher.{cipher_function, Halves, round, rounds, input_halves, output_block, cipher, decipher, encrypted, decrypted}
use Rattle.des_cbc.specs.inside.BitLaws.{length-xor_bits, xor_bits-twice, length-block_bits, block_bits-block_bytes, block_bytes-block_bits}

pub and_left : (a b : Bool) → (a && b) ≡ true → a ≡ true
and_left true b h = refl
and_left false b h = absurd cc

pub and_right : (a b : Bool) → (a && b) ≡ true → b ≡ true
and_right true b h = h
and_right false b h = absurd cc

-- ---- the rounds

abbrev exchanged_halves : Halves → Halves
exchanged_halves h = record { left = h.right; right = h.left }

record AreHalves (h : Halves) : Type 0 where
  left : length h.left ≡ 32
  right : length h.right ≡ 32

pub length-permute : (t : List ℕ) (b : List Bool) → length (permute t b) ≡ length t
unfolding permute
length-permute [] b = refl
length-permute (p ∷ t) b = ap suc (length-permute t b)

length-cipher_function : (r k : List Bool) → length (cipher_function r k) ≡ 32
unfolding cipher_function primitive
length-cipher_function r k = length-permute primitive _

as_long : (h : Halves) (k : List Bool) → AreHalves h
    → length h.left ≡ length (cipher_function h.right k)
as_long h k d = d.left ∙ sym (length-cipher_function h.right k)

AreHalves-round : (k : List Bool) (h : Halves) → AreHalves h → AreHalves (round k h)
AreHalves-round k h d =
    record {
      left = d.right;
      right = length-xor_bits h.left (cipher_function h.right k)
          (as_long h k d) ∙ d.left;
    }

AreHalves-rounds : (ks : List (List Bool)) (h : Halves) → AreHalves h → AreHalves (rounds ks h)
unfolding rounds
AreHalves-rounds [] h d = d
AreHalves-rounds (k ∷ ks) h d = AreHalves-rounds ks (round k h) (AreHalves-round k h d)

rounds-append : (ks js : List (List Bool)) (h : Halves)
    → rounds (ks ++ js) h ≡ rounds js (rounds ks h)
unfolding rounds
rounds-append [] js h = refl
rounds-append (k ∷ ks) js h = rounds-append ks js (round k h)

-- a round on the exchanged halves takes the round back
round_back : (k : List Bool) (h : Halves) → AreHalves h
    → round k (exchanged_halves (round k h)) ≡ exchanged_halves h
round_back k h d =
    ap (λ (l : List Bool). let s : Halves = record { left = h.right; right = l } in s)
    (xor_bits-twice h.left (cipher_function h.right k) (as_long h k d))

rounds_back : (ks : List (List Bool)) (h : Halves) → AreHalves h
    → rounds (reverse ks) (exchanged_halves (rounds ks h)) ≡ exchanged_halves h
unfolding rounds
rounds_back [] h d = refl
rounds_back (k ∷ ks) h d =
    let last : reverse (k ∷ ks) ≡ reverse ks ++ k ∷ [] = reverse-append (k ∷ []) ks in
    rw last
    (rounds-append (reverse ks) (k ∷ []) _
    ∙ ap (round k) (rounds_back ks (round k h) (AreHalves-round k h d)) ∙ round_back k h d)

-- ---- the initial permutation and its inverse

-- each place of a table is one of n
unfoldable places_below : ℕ → List ℕ → Bool
places_below n [] = true
places_below n (p ∷ t) = nat_lt (p - 1) n && places_below n t

-- the table that stands for one table after another
unfoldable through : List ℕ → List ℕ → List ℕ
through [] s = []
through (p ∷ t) s = get_or s (p - 1) 0 ∷ through t s

get_or-permute : (s : List ℕ) (b : List Bool) (i : ℕ) → i < length s
    → get_or (permute s b) i false ≡ get_or b (get_or s i 0 - 1) false
unfolding permute
get_or-permute [] b i h = absurd (omega arith)
get_or-permute (p ∷ s) b zero h = refl
get_or-permute (p ∷ s) b (suc i) h = get_or-permute s b i (omega arith)

permute-permute : (t s : List ℕ) (b : List Bool) → places_below (length s) t ≡ true
    → permute t (permute s b) ≡ permute (through t s) b
unfolding permute through places_below
permute-permute [] s b h = refl
permute-permute (p ∷ t) s b h =
    ap₂ (λ (x : Bool) (xs : List Bool). x ∷ xs)
    (get_or-permute s b (p - 1) (ltb-true _ _ (and_left _ _ h)))
    (permute-permute t s b (and_right _ _ h))

permute-range : (n k : ℕ) (b : List Bool) → k + n ≤ length b
    → permute (range_with_len (k + 1) n) b ≡ take n (drop k b)
unfolding permute
permute-range zero k b h = refl
permute-range (suc n) k b h =
    let place : k + 1 - 1 ≡ k = omega arith in
    let next : suc k ≡ k + 1 = omega arith in
    let opened : drop k b ≡ get_or b k false ∷ drop (k + 1) b =
    drop-cons b k false (omega arith) ∙ ap (λ (j : ℕ). get_or b k false ∷ drop j b) next in
    rw opened
    (ap₂ (λ (x : Bool) (xs : List Bool). x ∷ xs) (ap (λ (j : ℕ). get_or b j false) place)
    (permute-range n (k + 1) b (omega arith)))

permute_all : (b : List Bool) → length b ≡ 64 → permute (range_with_len 1 64) b ≡ b
permute_all b h = permute-range 64 0 b (omega arith) ∙ take_all 64 b (omega arith)

pub inverse_initial-initial : (b : List Bool) → length b ≡ 64
    → permute inverse_initial (permute initial b) ≡ b
unfolding inverse_initial initial through places_below
inverse_initial-initial b h = permute-permute inverse_initial initial b refl ∙ permute_all b h

pub initial-inverse_initial : (b : List Bool) → length b ≡ 64
    → permute initial (permute inverse_initial b) ≡ b
unfolding inverse_initial initial through places_below
initial-inverse_initial b h = permute-permute initial inverse_initial b refl ∙ permute_all b h

length-initial : (b : List Bool) → length (permute initial b) ≡ 64
unfolding initial
length-initial b = length-permute initial b

AreHalves-input : (b : List Bool) → AreHalves (input_halves b)
AreHalves-input b = record {
  left = length-take-le 32 (permute initial b) (omega (arith, length-initial b));
  right = omega (arith, length-drop 32 (permute initial b), length-initial b);
}

-- the output goes in again with its halves exchanged
input-output : (h : Halves) → AreHalves h → input_halves (output_block h) ≡ exchanged_halves h
input-output h d =
    let whole : length (h.right ++ h.left) ≡ 64 =
    omega (arith, length-append h.right h.left, d.left, d.right) in
    let same = initial-inverse_initial (h.right ++ h.left) whole in
    let first : take 32 (permute initial (output_block h)) ≡ h.right = ap (take 32) same
    ∙ take_at h.right h.left 32 d.right in
    let last : drop 32 (permute initial (output_block h)) ≡ h.left = ap (drop 32) same
    ∙ drop_at h.right h.left 32 d.right in
    ap₂ (λ (l r : List Bool). let s : Halves = record { left = l; right = r } in s) first last

output-input : (b : List Bool) → length b ≡ 64
    → output_block (exchanged_halves (input_halves b)) ≡ b
output-input b h = ap (permute inverse_initial) (take-append-drop 32 (permute initial b))
    ∙ inverse_initial-initial b h

-- ---- blocks

pub length-cipher : (ks : List (List Bool)) (b : List Bool) → length (cipher ks b) ≡ 64
unfolding cipher inverse_initial
length-cipher ks b = length-permute inverse_initial _

pub decipher-cipher : (ks : List (List Bool)) (b : List Bool) → length b ≡ 64
    → decipher ks (cipher ks b) ≡ b
unfolding cipher
decipher-cipher ks b h =
    ap (λ (x : Halves). output_block (rounds (reverse ks) x))
    (input-output (rounds ks (input_halves b))
    (AreHalves-rounds ks (input_halves b) (AreHalves-input b)))
    ∙ ap output_block (rounds_back ks (input_halves b) (AreHalves-input b)) ∙ output-input b h

pub cipher-decipher : (ks : List (List Bool)) (b : List Bool) → length b ≡ 64
    → cipher ks (decipher ks b) ≡ b
cipher-decipher ks b h =
    ap (λ (js : List (List Bool)). cipher js (decipher ks b)) (sym (reverse-reverse ks))
    ∙ decipher-cipher (reverse ks) b h

pub decrypted-encrypted : (ks : List (List Bool)) (b : List ℕ) → IsBlock b
    → decrypted ks (encrypted ks b) ≡ b
unfolding encrypted decrypted
decrypted-encrypted ks b h =
    ap (λ (x : List Bool). block_bytes (decipher ks x))
    (block_bits-block_bytes (cipher ks (block_bits b)) (length-cipher ks (block_bits b)))
    ∙ ap block_bytes (decipher-cipher ks (block_bits b) (length-block_bits b))
    ∙ block_bytes-block_bits b h

pub encrypted-decrypted : (ks : List (List Bool)) (b : List ℕ) → IsBlock b
    → encrypted ks (decrypted ks b) ≡ b
unfolding encrypted decrypted
encrypted-decrypted ks b h =
    ap (λ (x : List Bool). block_bytes (cipher ks x))
    (block_bits-block_bytes (decipher ks (block_bits b))
    (length-cipher (reverse ks) (block_bits b)))
    ∙ ap block_bytes (cipher-decipher ks (block_bits b) (length-block_bits b))
    ∙ block_bytes-block_bits b h
