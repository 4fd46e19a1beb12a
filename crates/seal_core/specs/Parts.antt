-- Texts joined of parts, and the parts taken out again.
use Rattle.std.proofs.Common.{◌≡◌, ℕ, zero, suc, ◌+◌, ◌<◌, ◌/◌, ◌^◌, ◌%◌, drop-drop, List, [], ◌∷◌, ◌++◌, length, take, drop, get_or, sym, ap, ap₂, ◌∙◌, arith, length-append, append_assoc, take_at, drop_at}
use Rattle.std.specs.Int.{w64, to_be_bytes, byte_at, bytes_high_first}
use Rattle.std.proofs.lemmas.List.{get_or-drop, take-append-drop}
use Rattle.seal_core.specs.Blocks.{AreBytes}

-- of three parts, where the first and the last have eight bytes
pub record HasParts (text first middle last : List ℕ) (n : ℕ) : Type 0 where
  pub first_is : take 8 text ≡ first
  pub middle_is : take n (drop 8 text) ≡ middle
  pub last_is : drop (8 + n) text ≡ last

parts_of : (first middle last : List ℕ) (n : ℕ) → length first ≡ 8 → length middle ≡ n
    → HasParts (first ++ (middle ++ last)) first middle last n
parts_of first middle last n hf hm =
    let rest : drop 8 (first ++ (middle ++ last)) ≡ middle ++ last =
    drop_at first (middle ++ last) 8 hf in
    record {
      first_is = take_at first (middle ++ last) 8 hf;
      middle_is = ap (take n) rest ∙ take_at middle last n hm;
      last_is =
          ap (drop (8 + n)) (sym (append_assoc first middle last))
          ∙ drop_at (first ++ middle) last (8 + n) (omega (arith, length-append first middle));
    }

pub parts : (text first middle last : List ℕ) (n : ℕ) → text ≡ first ++ middle ++ last
    → length first ≡ 8 → length last ≡ 8 → length text ≡ n + 16
    → HasParts text first middle last n
parts text first middle last n e hf hl h =
    let whole : text ≡ first ++ (middle ++ last) = e ∙ append_assoc first middle last in
    let sum : length text ≡ 8 + (length middle + 8) = ap length whole
    ∙ length-append first (middle ++ last)
    ∙ ap₂ (λ (a b : ℕ). a + b) hf (length-append middle last
    ∙ ap (λ (k : ℕ). length middle + k) hl) in
    rw whole (parts_of first middle last n hf (omega arith))

append_below : (xs ys : List ℕ) → AreBytes xs → AreBytes ys → (i : ℕ) → get_or (xs ++ ys) i 0 < 256
append_below [] ys hx hy i = hy.below i
append_below (x ∷ xs) ys hx hy zero = hx.below 0
append_below (x ∷ xs) ys hx hy (suc i) =
    append_below xs ys (record { below = λ j. hx.below (suc j) }) hy i

pub AreBytes-append : (xs ys : List ℕ) → AreBytes xs → AreBytes ys → AreBytes (xs ++ ys)
AreBytes-append xs ys hx hy = record { below = append_below xs ys hx hy }

high : (n : ℕ) → n % 256 < 256
high n = omega arith

byte_at_below : (k n : ℕ) → byte_at k n < 256
byte_at_below zero n = omega arith
byte_at_below (suc k) n = high (n / 256 ^ suc k)

high_below : (k n i : ℕ) → get_or (bytes_high_first k n) i 0 < 256
high_below zero n i = omega arith
high_below (suc k) n zero = byte_at_below k n
high_below (suc k) n (suc i) = high_below k n i

-- the bytes of a word are bytes
pub AreBytes-word : (n : ℕ) → AreBytes (to_be_bytes w64 n)
AreBytes-word n = record { below = high_below 8 n }

pub AreBytes-drop : (n : ℕ) (xs : List ℕ) → AreBytes xs → AreBytes (drop n xs)
AreBytes-drop n xs h = record { below = λ i. rw get_or-drop (h.below (n + i)) }

take_below : (n : ℕ) (xs : List ℕ) → AreBytes xs → (i : ℕ) → get_or (take n xs) i 0 < 256
take_below zero xs h i = omega arith
take_below (suc n) [] h i = omega arith
take_below (suc n) (x ∷ xs) h zero = h.below 0
take_below (suc n) (x ∷ xs) h (suc i) = take_below n xs (record { below = λ j. h.below (suc j) }) i

pub AreBytes-take : (n : ℕ) (xs : List ℕ) → AreBytes xs → AreBytes (take n xs)
AreBytes-take n xs h = record { below = take_below n xs h }

-- a text is the three parts that are taken out of it
pub whole_of : (text first middle last : List ℕ) (n : ℕ) → first ≡ take 8 text
    → middle ≡ take n (drop 8 text) → last ≡ drop (8 + n) text
    → text ≡ first ++ middle ++ last
whole_of text first middle last n hf hm hl =
    let rest : drop (8 + n) text ≡ drop n (drop 8 text) = sym (drop-drop n 8 text) in
    let tail : take n (drop 8 text) ++ drop (8 + n) text ≡ drop 8 text =
    ap (λ (t : List ℕ). take n (drop 8 text) ++ t) rest ∙ take-append-drop n (drop 8 text) in
    rw (hf, hm, hl, append_assoc, tail) (sym (take-append-drop 8 text))
