-- The key schedule on words.
use Rattle.std.proofs.Common.{◌≡◌, ℕ, zero, suc, ◌+◌, ◌-◌, ◌*◌, ◌/◌, ◌%◌, ◌^◌, ◌<◌, ◌≤◌, Bool, true, ◌&&◌, nat_le, leb-true, List, [], ◌∷◌, ◌++◌, map, length, take, drop, set, get_or, bit_xor, bit_and, refl, sym, ap, ap₂, ◌∙◌, arith, inl, inr, ◌⊎◌, drop-cons, append_assoc, take_at, drop_at, pow_pos}
use Rattle.std.specs.Int.Bits.{and_mask, xor_shifted}
use Rattle.std.proofs.lemmas.Bool.{cases_lt}
use Rattle.std.proofs.lemmas.List.{get_or-drop, drop_all, take_all, append-nil, length-append, length-take-le, length-drop, length-map}
use Rattle.std.proofs.lemmas.Nat.{xor_comm, xor_shr, xor_mod, mod-pow-add}
use Rattle.des_cbc.specs.declared.chosen_low.TheConstants.{CHOSEN_LOW}
use Rattle.des_cbc.specs.declared.chosen_high.TheConstants.{CHOSEN_HIGH}
use Rattle.des_cbc.specs.Tables.{choice_2}
use Rattle.des_cbc.specs.Bits.{bits, xor_bits, permute}
use Rattle.des_cbc.specs.Cipher.{rotate, round_keys}
use Rattle.des_cbc.specs.inside.BitLaws.{length-bits}
use Rattle.des_cbc.specs.inside.CipherLaws.{and_left, and_right}
use Rattle.des_cbc.specs.inside.Words.{groups, round_key, turned_word}
use Rattle.des_cbc.proofs.Additive.{bits-bit_xor, permute-xor_bits, same_bits, same_bits-true, agree, same_if_agree}
use Rattle.des_cbc.proofs.Linear.{Linear, linear_sum, linear_then, linear_shr_and, linear_shl_and, additive_bits}
use Rattle.des_cbc.proofs.SelectionWords.{groups-xor}

-- ---- permuted choice 2

round_key-xor : (v w : ℕ) → round_key (bit_xor v w) ≡ xor_bits (round_key v) (round_key w)
round_key-xor v w = ap₂ groups (xor_shr v w 32) (xor_mod v w 32)
    ∙ groups-xor (v / 2 ^ 32) (v % 2 ^ 32) (w / 2 ^ 32) (w % 2 ^ 32)

-- the round key of a number of 56 bits
abbrev chosen : ℕ → List Bool
chosen x = permute choice_2 (bits 56 x)

chosen-xor : (x y : ℕ) → chosen (bit_xor x y) ≡ xor_bits (chosen x) (chosen y)
chosen-xor x y =
    ap (permute choice_2) (bits-bit_xor 56 x y)
    ∙ permute-xor_bits choice_2 (bits 56 x) (bits 56 y) (length-bits 56 x ∙ sym (length-bits 56 y))

-- the first n entries of a part of the table, which stand for seven bits from k on
unfoldable part_holds : List ℕ → ℕ → ℕ → Bool
part_holds part k zero = true
part_holds part k (suc n) = same_bits (round_key (get_or part n 0)) (chosen (n * 2 ^ k)) && part_holds part k n

part_0 : part_holds CHOSEN_LOW 0 128 ≡ true
unfolding part_holds same_bits bits permute groups choice_2
part_0 = refl

part_1 : part_holds (drop 128 CHOSEN_LOW) 7 128 ≡ true
unfolding part_holds same_bits bits permute groups choice_2
part_1 = refl

part_2 : part_holds (drop 256 CHOSEN_LOW) 14 128 ≡ true
unfolding part_holds same_bits bits permute groups choice_2
part_2 = refl

part_3 : part_holds (drop 384 CHOSEN_LOW) 21 128 ≡ true
unfolding part_holds same_bits bits permute groups choice_2
part_3 = refl

part_4 : part_holds CHOSEN_HIGH 28 128 ≡ true
unfolding part_holds same_bits bits permute groups choice_2
part_4 = refl

part_5 : part_holds (drop 128 CHOSEN_HIGH) 35 128 ≡ true
unfolding part_holds same_bits bits permute groups choice_2
part_5 = refl

part_6 : part_holds (drop 256 CHOSEN_HIGH) 42 128 ≡ true
unfolding part_holds same_bits bits permute groups choice_2
part_6 = refl

part_7 : part_holds (drop 384 CHOSEN_HIGH) 49 128 ≡ true
unfolding part_holds same_bits bits permute groups choice_2
part_7 = refl

entry_is : (part : List ℕ) (k n : ℕ) → part_holds part k n ≡ true → (v : ℕ) → v < n
    → round_key (get_or part v 0) ≡ chosen (v * 2 ^ k)
unfolding part_holds
entry_is part k zero h v lt = absurd (omega arith)
entry_is part k (suc n) h v lt =
    elim (cases_lt v n) [
      | inl low ↦ entry_is part k n (and_right _ _ h) v low
      | inr high ↦
          let last : v ≡ n = omega arith in
          rw last (same_bits-true _ _ (and_left _ _ h))
    ]

of_part : (table : List ℕ) (j k s : ℕ) → part_holds (drop k table) s 128 ≡ true → k ≡ 128 * j → (v : ℕ) → v < 128
    → round_key (get_or table (128 * j + v) 0) ≡ chosen (v * 2 ^ s)
of_part table j k s h e v lt =
    ap round_key (ap (λ (i : ℕ). get_or table (i + v) 0) (sym e) ∙ sym (get_or-drop k table v 0))
    ∙ entry_is (drop k table) s 128 h v lt

pub low_place : (j v : ℕ) → j < 4 → v < 128 → round_key (get_or CHOSEN_LOW (128 * j + v) 0) ≡ chosen (v * 2 ^ (7 * j))
low_place zero v h lt = of_part CHOSEN_LOW 0 0 0 part_0 refl v lt
low_place (suc zero) v h lt = of_part CHOSEN_LOW 1 128 7 part_1 refl v lt
low_place (suc (suc zero)) v h lt = of_part CHOSEN_LOW 2 256 14 part_2 refl v lt
low_place (suc (suc (suc zero))) v h lt = of_part CHOSEN_LOW 3 384 21 part_3 refl v lt
low_place (suc (suc (suc (suc j)))) v h lt = absurd (omega arith)

high_place : (j v : ℕ) → j < 4 → v < 128 → round_key (get_or CHOSEN_HIGH (128 * j + v) 0)
    ≡ chosen (v * 2 ^ (28 + 7 * j))
high_place zero v h lt = of_part CHOSEN_HIGH 0 0 28 part_4 refl v lt
high_place (suc zero) v h lt = of_part CHOSEN_HIGH 1 128 35 part_5 refl v lt
high_place (suc (suc zero)) v h lt = of_part CHOSEN_HIGH 2 256 42 part_6 refl v lt
high_place (suc (suc (suc zero))) v h lt = of_part CHOSEN_HIGH 3 384 49 part_7 refl v lt
high_place (suc (suc (suc (suc j)))) v h lt = absurd (omega arith)

pub upper_place : (j v : ℕ) → 4 ≤ j → j < 8 → v < 128
    → round_key (get_or CHOSEN_HIGH (128 * (j - 4) + v) 0) ≡ chosen (v * 2 ^ (7 * j))
upper_place j v low h lt = high_place (j - 4) v (omega arith) lt ∙ ap (λ (k : ℕ). chosen (v * 2 ^ k)) (omega arith)

mod_below : (x k : ℕ) → x % 2 ^ k < 2 ^ k
mod_below x k = let pos : 0 < 2 ^ k = pow_pos k in omega arith

-- none of the bits gives an empty key
no_key : round_key 0 ≡ chosen 0
unfolding groups bits permute choice_2
no_key = refl

pub none_chosen : (x : ℕ) → round_key 0 ≡ chosen (x % 1)
none_chosen x = no_key ∙ ap chosen (omega arith)

-- seven bits more
pub more_chosen : (x key j k : ℕ) → round_key key ≡ chosen (x % 2 ^ (7 * j))
    → round_key k ≡ chosen (bit_and (x / 2 ^ (7 * j)) 127 * 2 ^ (7 * j))
    → round_key (bit_xor key k) ≡ chosen (x % 2 ^ (7 * (j + 1)))
more_chosen x key j k e f =
    let v : ℕ = bit_and (x / 2 ^ (7 * j)) 127 in
    let low : v ≡ x / 2 ^ (7 * j) % 2 ^ 7 = and_mask (x / 2 ^ (7 * j)) 7 in
    let small : x % 2 ^ (7 * j) < 2 ^ (7 * j) = mod_below x (7 * j) in
    let whole : bit_xor (v * 2 ^ (7 * j)) (x % 2 ^ (7 * j)) ≡ x % 2 ^ (7 * (j + 1)) =
    xor_shifted v (7 * j) (x % 2 ^ (7 * j)) small
    ∙ ap (λ (w : ℕ). w * 2 ^ (7 * j) + x % 2 ^ (7 * j)) low
    ∙ sym (mod-pow-add x 7 (7 * j)) ∙ ap (λ (n : ℕ). x % 2 ^ n) (omega arith) in
    round_key-xor key k ∙ ap₂ xor_bits e f
    ∙ sym (chosen-xor (x % 2 ^ (7 * j)) (v * 2 ^ (7 * j)))
    ∙ ap chosen (xor_comm (x % 2 ^ (7 * j)) (v * 2 ^ (7 * j)) ∙ whole)

-- all 56 of them
pub all_chosen : (x key j : ℕ) → x < 2 ^ 56 → j ≡ 8 → round_key key ≡ chosen (x % 2 ^ (7 * j))
    → round_key key ≡ chosen x
all_chosen x key j lt h e =
    let all : 7 * j ≡ 56 = omega arith in
    let same : x % 2 ^ 56 ≡ x = omega arith in
    e ∙ ap chosen (ap (λ (k : ℕ). x % 2 ^ k) all ∙ same)

-- ---- the shifts

-- both halves of 56 bits turned
abbrev pub turned_halves : ℕ → List Bool → List Bool
turned_halves n b = rotate n (take 28 b) ++ rotate n (drop 28 b)

linear_turned : Linear turned_word
linear_turned =
    linear_sum (λ x. bit_and (x * 2 ^ 1 % 2 ^ 64) 0xffffffeffffffe) (λ x. bit_and (x / 2 ^ 27) 0x10000001)
    (linear_shl_and 1 0xffffffeffffffe) (linear_shr_and 27 0x10000001)

halves_xor_one : (x y : ℕ) → turned_halves 1 (xor_bits (bits 56 x) (bits 56 y))
    ≡ xor_bits (turned_halves 1 (bits 56 x)) (turned_halves 1 (bits 56 y))
unfolding bits xor_bits
halves_xor_one x y = refl

halves_xor_two : (x y : ℕ) → turned_halves 2 (xor_bits (bits 56 x) (bits 56 y))
    ≡ xor_bits (turned_halves 2 (bits 56 x)) (turned_halves 2 (bits 56 y))
unfolding bits xor_bits
halves_xor_two x y = refl

one_agrees : agree (λ x. bits 56 (turned_word x)) (λ x. turned_halves 1 (bits 56 x)) 56 ≡ true
unfolding agree same_bits bits
one_agrees = refl

two_agrees : agree (λ x. bits 56 (turned_word (turned_word x))) (λ x. turned_halves 2 (bits 56 x)) 56 ≡ true
unfolding agree same_bits bits
two_agrees = refl

pub turned_once : (x : ℕ) → x < 2 ^ 56 → bits 56 (turned_word x) ≡ turned_halves 1 (bits 56 x)
turned_once x h =
    same_if_agree (λ x. bits 56 (turned_word x)) (λ x. turned_halves 1 (bits 56 x))
    (additive_bits 56 turned_word linear_turned)
    (record { step = λ x y. ap (turned_halves 1) (bits-bit_xor 56 x y) ∙ halves_xor_one x y }) 56 one_agrees x h

pub turned_twice : (x : ℕ) → x < 2 ^ 56 → bits 56 (turned_word (turned_word x)) ≡ turned_halves 2 (bits 56 x)
turned_twice x h =
    same_if_agree (λ x. bits 56 (turned_word (turned_word x))) (λ x. turned_halves 2 (bits 56 x))
    (additive_bits 56 (λ x. turned_word (turned_word x))
    (linear_then turned_word turned_word linear_turned linear_turned))
    (record { step = λ x y. ap (turned_halves 2) (bits-bit_xor 56 x y) ∙ halves_xor_two x y }) 56 two_agrees x h

-- each shift is 1 or 2
unfoldable pub one_or_two : List ℕ → Bool
one_or_two [] = true
one_or_two (n ∷ ns) = nat_le 1 n && (nat_le n 2 && one_or_two ns)

one_of_them : (n : ℕ) → 1 ≤ n → n ≤ 2 → (n ≡ 1) ⊎ (n ≡ 2)
one_of_them zero h k = absurd (omega arith)
one_of_them (suc zero) h k = inl refl
one_of_them (suc (suc zero)) h k = inr refl
one_of_them (suc (suc (suc n))) h k = absurd (omega arith)

pub shift_at : (ns : List ℕ) (k : ℕ) → one_or_two ns ≡ true → k < length ns → (get_or ns k 0 ≡ 1) ⊎ (get_or ns k 0 ≡ 2)
unfolding one_or_two
shift_at [] k h lt = absurd (omega arith)
shift_at (n ∷ ns) zero h lt = one_of_them n (leb-true _ _ (and_left _ _ h))
    (leb-true _ _ (and_left _ _ (and_right _ _ h)))
shift_at (n ∷ ns) (suc k) h lt = shift_at ns k (and_right _ _ (and_right _ _ h)) (omega arith)

-- ---- the list of round keys

map-set : (ks : List ℕ) (i k : ℕ) → i < length ks
    → take (i + 1) (map round_key (set ks i k)) ≡ take i (map round_key ks) ++ round_key k ∷ []
map-set [] i k h = absurd (omega arith)
map-set (x ∷ ks) zero k h = refl
map-set (x ∷ ks) (suc i) k h =
    let more : suc i + 1 ≡ suc (i + 1) = omega arith in
    rw more (ap (λ (t : List (List Bool)). round_key x ∷ t) (map-set ks i k (omega arith)))

length-rotate : (n : ℕ) (b : List Bool) → n ≤ length b → length (rotate n b) ≡ length b
length-rotate n b h = omega (arith, length-append (drop n b) (take n b), length-take-le n b h, length-drop n b)

-- the halves of turned halves
split_turned : (n x y : ℕ) → n ≤ 28 → bits 56 y ≡ turned_halves n (bits 56 x)
    → (take 28 (bits 56 y) ≡ rotate n (take 28 (bits 56 x))) × (drop 28 (bits 56 y) ≡ rotate n (drop 28 (bits 56 x)))
split_turned n x y h e =
    let half : length (take 28 (bits 56 x)) ≡ 28 = length-take-le 28 (bits 56 x) (omega (arith, length-bits 56 x)) in
    let first : length (rotate n (take 28 (bits 56 x))) ≡ 28 = length-rotate n (take 28 (bits 56 x)) (omega arith)
    ∙ half in (
      ap (take 28) e ∙ take_at (rotate n (take 28 (bits 56 x))) (rotate n (drop 28 (bits 56 x))) 28 first,
      ap (drop 28) e ∙ drop_at (rotate n (take 28 (bits 56 x))) (rotate n (drop 28 (bits 56 x))) 28 first,
    )

-- one more round key
pub next_key : (ks ns : List ℕ) (i x y k : ℕ) (all : List (List Bool)) → length ks ≡ 16 → length ns ≡ 16 → i < 16
    → get_or ns i 0 ≤ 28
    → bits 56 y ≡ turned_halves (get_or ns i 0) (bits 56 x) → round_key k ≡ permute choice_2 (bits 56 y)
    → take i (map round_key ks) ++ round_keys (drop i ns) (take 28 (bits 56 x)) (drop 28 (bits 56 x)) ≡ all
    → take (i + 1) (map round_key (set ks i k))
    ++ round_keys (drop (i + 1) ns) (take 28 (bits 56 y)) (drop 28 (bits 56 y)) ≡ all
unfolding round_keys
next_key ks ns i x y k all lk ln lt hn hy hk done =
    let n : ℕ = get_or ns i 0 in
    let more : suc i ≡ i + 1 = omega arith in
    let parts = split_turned n x y hn hy in
    let key : round_key k ≡ permute choice_2 (turned_halves n (bits 56 x)) = hk ∙ ap (permute choice_2) hy in
    let opened : drop i ns ≡ n ∷ drop (i + 1) ns = drop-cons ns i 0 (omega arith)
    ∙ ap (λ (j : ℕ). n ∷ drop j ns) more in
    let front = map-set ks i k (omega arith) in
    rw (front, append_assoc)
    (ap₂ (λ (z : List Bool) (zs : List (List Bool)). take i (map round_key ks) ++ z ∷ zs) key
    (ap₂ (round_keys (drop (i + 1) ns)) parts.0 parts.1)
    ∙ ap (λ (ms : List ℕ). take i (map round_key ks) ++ round_keys ms (take 28 (bits 56 x)) (drop 28 (bits 56 x)))
    (sym opened) ∙ done)

pub all_keys : (ks ns : List ℕ) (i : ℕ) (c d : List Bool) (all : List (List Bool)) → length ks ≡ 16 → length ns ≡ 16
    → i ≡ 16
    → take i (map round_key ks) ++ round_keys (drop i ns) c d ≡ all → map round_key ks ≡ all
unfolding round_keys
all_keys ks ns i c d all lk ln li h =
    let none : drop i ns ≡ [] = drop_all i ns (omega arith) in
    let whole : take i (map round_key ks) ≡ map round_key ks =
    take_all i (map round_key ks) (omega (arith, length-map ks round_key)) in
    sym whole ∙ sym (append-nil (take i (map round_key ks)))
    ∙ ap (λ (ms : List ℕ). take i (map round_key ks) ++ round_keys ms c d) (sym none) ∙ h
