-- Blocks between words, bits and bytes.
use Rattle.std.proofs.Common.{◌≡◌, ℕ, suc, ◌+◌, ◌%◌, ◌^◌, ◌<◌, ◌≤◌, Bool, List, [], ◌∷◌, ◌++◌, map, reverse, length, take, drop, get_or, refl, sym, ap, ap₂, ◌∙◌, arith, drop-cons}
use Rattle.std.proofs.lemmas.List.{reverse-append, map-append}
use Rattle.std.specs.Int.{w64, from_be_bytes, to_be_bytes}
use Rattle.des_cbc.specs.Bits.{bits, number, block_bits, block_bytes}
use Rattle.des_cbc.specs.Cipher.{cipher, encrypted, decrypted}
use Rattle.des_cbc.specs.inside.BitLaws.{number-bits}

pub map-reverse : (f : ℕ → List Bool) (xs : List ℕ) → map f (reverse xs) ≡ reverse (map f xs)
map-reverse f [] = refl
map-reverse f (x ∷ xs) =
    ap (map f) (reverse-append (x ∷ []) xs) ∙ map-append f (reverse xs) (x ∷ [])
    ∙ ap (λ (t : List (List Bool)). t ++ f x ∷ []) (map-reverse f xs) ∙ sym (reverse-append (f x ∷ []) (map f xs))

word_is : (x : ℕ) (b : List Bool) → x < 2 ^ 64 → bits 64 x ≡ b → x ≡ number b
word_is x b h e =
    let same : x % 2 ^ 64 ≡ x = omega arith in
    sym same ∙ sym (number-bits 64 x) ∙ ap number e

-- a block that a word was read from, and one that a word is written to
pub read_is : (x : ℕ) (b : List ℕ) → x ≡ from_be_bytes w64 b → bits 64 x ≡ block_bits b
unfolding block_bits
read_is x b e = ap (bits 64) e

pub written_is : (x : ℕ) (r : List ℕ) → x < 2 ^ 64 → r ≡ to_be_bytes w64 x → r ≡ block_bytes (bits 64 x)
unfolding block_bytes
written_is x r h e = e ∙ ap (to_be_bytes w64) (word_is x (bits 64 x) h refl)

pub encrypted_is : (ks js : List (List Bool)) (x y : ℕ) (b r : List ℕ) → x ≡ from_be_bytes w64 b → y < 2 ^ 64
    → bits 64 y ≡ cipher js (bits 64 x) → r ≡ to_be_bytes w64 y → js ≡ ks
    → r ≡ encrypted ks b
unfolding encrypted
encrypted_is ks js x y b r hx hy e hr k =
    written_is y r hy hr ∙ ap block_bytes (e ∙ ap₂ cipher k (read_is x b hx))

pub decrypted_is : (ks js : List (List Bool)) (x y : ℕ) (b r : List ℕ) → x ≡ from_be_bytes w64 b → y < 2 ^ 64
    → bits 64 y ≡ cipher js (bits 64 x) → r ≡ to_be_bytes w64 y → js ≡ reverse ks
    → r ≡ decrypted ks b
unfolding decrypted
decrypted_is ks js x y b r hx hy e hr k =
    written_is y r hy hr ∙ ap block_bytes (e ∙ ap₂ cipher k (read_is x b hx))

-- ---- a block of a text

one_more : (n k j : ℕ) (xs : List ℕ) → j ≡ k + 1 → k < length xs
    → take (suc n) (drop k xs) ≡ get_or xs k 0 ∷ take n (drop j xs)
one_more n k j xs e h =
    let more : suc k ≡ j = omega arith in
    ap (take (suc n)) (drop-cons xs k 0 h) ∙ ap (λ (i : ℕ). get_or xs k 0 ∷ take n (drop i xs)) more

pub eight : (xs : List ℕ) (k : ℕ) → k + 8 ≤ length xs
    → take 8 (drop k xs) ≡ get_or xs k 0 ∷ get_or xs (k + 1) 0 ∷ get_or xs (k + 2) 0 ∷ get_or xs (k + 3) 0
    ∷ get_or xs (k + 4) 0 ∷ get_or xs (k + 5) 0 ∷ get_or xs (k + 6) 0 ∷ get_or xs (k + 7) 0 ∷ []
eight xs k h =
    one_more 7 k (k + 1) xs (omega arith) (omega arith)
    ∙ ap (λ (t : List ℕ). get_or xs k 0 ∷ t) (one_more 6 (k + 1) (k + 2) xs (omega arith) (omega arith)
    ∙ ap (λ (t : List ℕ). get_or xs (k + 1) 0 ∷ t) (one_more 5 (k + 2) (k + 3) xs (omega arith) (omega arith)
    ∙ ap (λ (t : List ℕ). get_or xs (k + 2) 0 ∷ t) (one_more 4 (k + 3) (k + 4) xs (omega arith) (omega arith)
    ∙ ap (λ (t : List ℕ). get_or xs (k + 3) 0 ∷ t) (one_more 3 (k + 4) (k + 5) xs (omega arith) (omega arith)
    ∙ ap (λ (t : List ℕ). get_or xs (k + 4) 0 ∷ t) (one_more 2 (k + 5) (k + 6) xs (omega arith) (omega arith)
    ∙ ap (λ (t : List ℕ). get_or xs (k + 5) 0 ∷ t) (one_more 1 (k + 6) (k + 7) xs (omega arith) (omega arith)
    ∙ ap (λ (t : List ℕ). get_or xs (k + 6) 0 ∷ t) (one_more 0 (k + 7) (k + 8) xs (omega arith) (omega arith))))))))
