-- The cipher function on words.
use Rattle.std.proofs.Common.{◌≡◌, ℕ, zero, suc, ◌+◌, ◌*◌, ◌/◌, ◌%◌, ◌^◌, ◌<◌, Bool, true, false, ◌&&◌, List, [], ◌++◌, length, drop, get_or, bit_xor, bit_and, refl, div-one, sym, ap, ap₂, ◌∙◌, arith, inl, inr}
use Rattle.std.specs.Int.Bits.{and_mask}
use Rattle.std.proofs.lemmas.Bool.{cases_lt}
use Rattle.std.proofs.lemmas.List.{length-append, get_or-drop}
use Rattle.std.proofs.lemmas.Nat.{xor_shr}
use Rattle.std.proofs.lemmas.Simd.{length-replicate}
use Rattle.des_cbc.specs.declared.selected.TheConstants.{SELECTED}
use Rattle.des_cbc.specs.Tables.{expansion, primitive}
use Rattle.des_cbc.specs.Selections.{select_1, select_2, select_3, select_4, select_5, select_6, select_7, select_8, selections}
use Rattle.des_cbc.specs.Bits.{bits, number, xor_bit, xor_bits, permute}
use Rattle.des_cbc.specs.Cipher.{select, select_all, cipher_function}
use Rattle.des_cbc.specs.inside.BitLaws.{length-bits, bits-mod, length-xor_bits}
use Rattle.des_cbc.specs.inside.CipherLaws.{and_left, and_right}
use Rattle.des_cbc.specs.inside.Words.{odd_groups, even_groups, groups, selection, at_place}
use Rattle.des_cbc.proofs.Additive.{Additive, bits-bit_xor, xor_bits-append, permute-xor_bits, same_bits, same_bits-true, agree, same_if_agree}
use Rattle.des_cbc.proofs.Linear.{Linear, linear_shr, linear_shl, linear_sum, additive_permute}

-- ---- the expansion

six : (x y k : ℕ) → bits 6 (bit_xor x y / 2 ^ k) ≡ xor_bits (bits 6 (x / 2 ^ k)) (bits 6 (y / 2 ^ k))
six x y k = ap (bits 6) (xor_shr x y k) ∙ bits-bit_xor 6 (x / 2 ^ k) (y / 2 ^ k)

six_more : (x y : ℕ) (c d e : List Bool) (k : ℕ) → e ≡ xor_bits c d
    → bits 6 (bit_xor x y / 2 ^ k) ++ e ≡ xor_bits (bits 6 (x / 2 ^ k) ++ c) (bits 6 (y / 2 ^ k) ++ d)
six_more x y c d e k h =
    ap₂ (λ (a b : List Bool). a ++ b) (six x y k) h
    ∙ sym (xor_bits-append (bits 6 (x / 2 ^ k)) (bits 6 (y / 2 ^ k)) c d (length-bits 6 _ ∙ sym (length-bits 6 _)))

pub groups-xor : (a b c d : ℕ) → groups (bit_xor a c) (bit_xor b d) ≡ xor_bits (groups a b) (groups c d)
unfolding groups
groups-xor a b c d =
    six_more a c _ _ _ 24 (six_more b d _ _ _ 24 (six_more a c _ _ _ 16 (six_more b d _ _ _ 16
    (six_more a c _ _ _ 8 (six_more b d _ _ _ 8 (six_more a c _ _ _ 0 (six b d 0)))))))

linear_odd : Linear odd_groups
linear_odd = linear_sum (λ x. x / 2 ^ 3) (λ x. x * 2 ^ 29 % 2 ^ 32) (linear_shr 3) (linear_shl 29 32)

linear_even : Linear even_groups
linear_even = linear_sum (λ x. x * 2 ^ 1 % 2 ^ 32) (λ x. x / 2 ^ 31) (linear_shl 1 32) (linear_shr 31)

expansion_agrees : agree (λ r. groups (odd_groups r) (even_groups r)) (λ r. permute expansion (bits 32 r)) 32 ≡ true
unfolding agree same_bits bits permute expansion groups
expansion_agrees = refl

additive_groups : Additive (λ r. groups (odd_groups r) (even_groups r))
additive_groups = record {
  step = λ x y.
      ap₂ groups (linear_odd.step x y) (linear_even.step x y)
      ∙ groups-xor (odd_groups x) (even_groups x) (odd_groups y) (even_groups y);
}

expansion_is : (r : ℕ) → r < 2 ^ 32 → groups (odd_groups r) (even_groups r) ≡ permute expansion (bits 32 r)
expansion_is r h =
    same_if_agree (λ r. groups (odd_groups r) (even_groups r)) (λ r. permute expansion (bits 32 r)) additive_groups
    (additive_permute 32 expansion) 32 expansion_agrees r h

-- ---- the selection functions

-- what a selection function makes of six bits, at its place and through P
abbrev placed : ℕ → ℕ → List Bool
placed place x = permute primitive (at_place place (select (selection place) (bits 6 x)))

-- the first n entries of a place's part of the table
unfoldable part_holds : List ℕ → ℕ → ℕ → Bool
part_holds part place zero = true
part_holds part place (suc n) = same_bits (bits 32 (get_or part n 0)) (placed place n) && part_holds part place n

part_0 : part_holds SELECTED 0 64 ≡ true
unfolding part_holds same_bits bits permute primitive at_place select select_1 number
part_0 = refl

part_1 : part_holds (drop 64 SELECTED) 1 64 ≡ true
unfolding part_holds same_bits bits permute primitive at_place select select_2 number
part_1 = refl

part_2 : part_holds (drop 128 SELECTED) 2 64 ≡ true
unfolding part_holds same_bits bits permute primitive at_place select select_3 number
part_2 = refl

part_3 : part_holds (drop 192 SELECTED) 3 64 ≡ true
unfolding part_holds same_bits bits permute primitive at_place select select_4 number
part_3 = refl

part_4 : part_holds (drop 256 SELECTED) 4 64 ≡ true
unfolding part_holds same_bits bits permute primitive at_place select select_5 number
part_4 = refl

part_5 : part_holds (drop 320 SELECTED) 5 64 ≡ true
unfolding part_holds same_bits bits permute primitive at_place select select_6 number
part_5 = refl

part_6 : part_holds (drop 384 SELECTED) 6 64 ≡ true
unfolding part_holds same_bits bits permute primitive at_place select select_7 number
part_6 = refl

part_7 : part_holds (drop 448 SELECTED) 7 64 ≡ true
unfolding part_holds same_bits bits permute primitive at_place select select_8 number
part_7 = refl

entry_is : (part : List ℕ) (place n : ℕ) → part_holds part place n ≡ true → (v : ℕ) → v < n
    → bits 32 (get_or part v 0) ≡ placed place v
unfolding part_holds
entry_is part place zero h v lt = absurd (omega arith)
entry_is part place (suc n) h v lt =
    elim (cases_lt v n) [
      | inl low ↦ entry_is part place n (and_right _ _ h) v low
      | inr high ↦
          let last : v ≡ n = omega arith in
          rw last (same_bits-true _ _ (and_left _ _ h))
    ]

of_part : (place k : ℕ) → k ≡ 64 * place → part_holds (drop k SELECTED) place 64 ≡ true → (v : ℕ) → v < 64
    → bits 32 (get_or SELECTED (64 * place + v) 0) ≡ placed place v
of_part place k e h v lt =
    ap (bits 32) (ap (λ (j : ℕ). get_or SELECTED (j + v) 0) (sym e) ∙ sym (get_or-drop k SELECTED v 0))
    ∙ entry_is (drop k SELECTED) place 64 h v lt

of_place : (place v : ℕ) → place < 8 → v < 64 → bits 32 (get_or SELECTED (64 * place + v) 0) ≡ placed place v
of_place zero v h lt = of_part 0 0 refl part_0 v lt
of_place (suc zero) v h lt = of_part 1 64 refl part_1 v lt
of_place (suc (suc zero)) v h lt = of_part 2 128 refl part_2 v lt
of_place (suc (suc (suc zero))) v h lt = of_part 3 192 refl part_3 v lt
of_place (suc (suc (suc (suc zero)))) v h lt = of_part 4 256 refl part_4 v lt
of_place (suc (suc (suc (suc (suc zero))))) v h lt = of_part 5 320 refl part_5 v lt
of_place (suc (suc (suc (suc (suc (suc zero)))))) v h lt = of_part 6 384 refl part_6 v lt
of_place (suc (suc (suc (suc (suc (suc (suc zero))))))) v h lt = of_part 7 448 refl part_7 v lt
of_place (suc (suc (suc (suc (suc (suc (suc (suc p)))))))) v h lt = absurd (omega arith)

pub selected_is : (place x : ℕ) → place < 8 → bits 32 (get_or SELECTED (64 * place + bit_and x 63) 0) ≡ placed place x
selected_is place x h =
    let low : bit_and x 63 ≡ x % 2 ^ 6 = and_mask x 6 in
    let under : x % 2 ^ 6 < 64 = omega arith in
    rw low
    (of_place place (x % 2 ^ 6) h under
    ∙ ap (λ (b : List Bool). permute primitive (at_place place (select (selection place) b)))
    (bits-mod 6 6 x (omega arith)))

-- ---- the eight together

xor_bit-false : (b : Bool) → xor_bit b false ≡ b
xor_bit-false true = refl
xor_bit-false false = refl

places_join : (n1 n2 n3 n4 n5 n6 n7 n8 : ℕ)
    → xor_bits (xor_bits (xor_bits (xor_bits (xor_bits (xor_bits
    (xor_bits (at_place 0 (bits 4 n1)) (at_place 1 (bits 4 n2))) (at_place 2 (bits 4 n3))) (at_place 3 (bits 4 n4)))
    (at_place 4 (bits 4 n5))) (at_place 5 (bits 4 n6))) (at_place 6 (bits 4 n7))) (at_place 7 (bits 4 n8))
    ≡ (bits 4 n1 ++ (bits 4 n2 ++ (bits 4 n3 ++ (bits 4 n4 ++ (bits 4 n5
    ++ (bits 4 n6 ++ (bits 4 n7 ++ (bits 4 n8 ++ []))))))))
unfolding at_place bits xor_bits
places_join n1 n2 n3 n4 n5 n6 n7 n8 = simp xor_bit-false

selects_join : (b1 b2 b3 b4 b5 b6 b7 b8 : List Bool)
    → xor_bits (xor_bits (xor_bits (xor_bits (xor_bits (xor_bits
    (xor_bits (at_place 0 (select select_1 b1)) (at_place 1 (select select_2 b2))) (at_place 2 (select select_3 b3)))
    (at_place 3 (select select_4 b4))) (at_place 4 (select select_5 b5))) (at_place 5 (select select_6 b6)))
    (at_place 6 (select select_7 b7))) (at_place 7 (select select_8 b8))
    ≡ (select select_1 b1 ++ (select select_2 b2
    ++ (select select_3 b3 ++ (select select_4 b4
    ++ (select select_5 b5 ++ (select select_6 b6 ++ (select select_7 b7 ++ (select select_8 b8 ++ []))))))))
unfolding select
selects_join b1 b2 b3 b4 b5 b6 b7 b8 = places_join _ _ _ _ _ _ _ _

select_all-groups : (a b : ℕ) → select_all selections (groups a b)
    ≡ (select select_1 (bits 6 (a / 2 ^ 24)) ++
    (select select_2 (bits 6 (b / 2 ^ 24)) ++
    (select select_3 (bits 6 (a / 2 ^ 16)) ++
    (select select_4 (bits 6 (b / 2 ^ 16)) ++
    (select select_5 (bits 6 (a / 2 ^ 8)) ++
    (select select_6 (bits 6 (b / 2 ^ 8)) ++
    (select select_7 (bits 6 (a / 2 ^ 0)) ++ (select select_8 (bits 6 (b / 2 ^ 0)) ++ []))))))))
unfolding select_all groups bits
select_all-groups a b = refl

-- two words that are P of lists of one length
both : (v w : ℕ) (a b : List Bool) → bits 32 v ≡ permute primitive a → bits 32 w ≡ permute primitive b → length a ≡ 32
    → length b ≡ 32
    → (bits 32 (bit_xor v w) ≡ permute primitive (xor_bits a b)) × (length (xor_bits a b) ≡ 32)
both v w a b hv hw la lb = (
  bits-bit_xor 32 v w ∙ ap₂ xor_bits hv hw ∙ sym (permute-xor_bits primitive a b (omega arith)),
  length-xor_bits a b (omega arith) ∙ la,
)

length-at_place : (place : ℕ) (b : List Bool) → place < 8 → length (at_place place b) ≡ 28 + length b
unfolding at_place
length-at_place place b h = simp (length-append, length-replicate) (omega arith)

length-select : (table : List ℕ) (b : List Bool) → length (select table b) ≡ 4
unfolding select
length-select table b = length-bits 4 _

length-placed : (place : ℕ) (table : List ℕ) (b : List Bool) → place < 8
    → length (at_place place (select table b)) ≡ 32
length-placed place table b h = omega (arith, length-at_place place (select table b) h, length-select table b)

pub cipher_function_is : (r odd even v1 v2 v3 v4 v5 v6 v7 v8 : ℕ) → r < 2 ^ 32
    → bits 32 v1 ≡ permute primitive (at_place 0 (select select_1 (bits 6 (bit_xor (odd_groups r) odd / 2 ^ 24))))
    → bits 32 v2 ≡ permute primitive (at_place 1 (select select_2 (bits 6 (bit_xor (even_groups r) even / 2 ^ 24))))
    → bits 32 v3 ≡ permute primitive (at_place 2 (select select_3 (bits 6 (bit_xor (odd_groups r) odd / 2 ^ 16))))
    → bits 32 v4 ≡ permute primitive (at_place 3 (select select_4 (bits 6 (bit_xor (even_groups r) even / 2 ^ 16))))
    → bits 32 v5 ≡ permute primitive (at_place 4 (select select_5 (bits 6 (bit_xor (odd_groups r) odd / 2 ^ 8))))
    → bits 32 v6 ≡ permute primitive (at_place 5 (select select_6 (bits 6 (bit_xor (even_groups r) even / 2 ^ 8))))
    → bits 32 v7 ≡ permute primitive (at_place 6 (select select_7 (bits 6 (bit_xor (odd_groups r) odd))))
    → bits 32 v8 ≡ permute primitive (at_place 7 (select select_8 (bits 6 (bit_xor (even_groups r) even))))
    → bits 32 (bit_xor (bit_xor (bit_xor (bit_xor (bit_xor (bit_xor (bit_xor (v1) (v2)) (v3)) (v4)) (v5)) (v6)) (v7))
    (v8)) ≡ cipher_function (bits 32 r) (groups odd even)
unfolding cipher_function
cipher_function_is r odd even v1 v2 v3 v4 v5 v6 v7 v8 fits h1 h2 h3 h4 h5 h6 h7 h8 =
    let a : ℕ = bit_xor (odd_groups r) odd in
    let b : ℕ = bit_xor (even_groups r) even in
    let g7 = h7 ∙ ap (λ (x : ℕ). permute primitive (at_place 6 (select select_7 (bits 6 x)))) (sym (div-one a)) in
    let g8 = h8 ∙ ap (λ (x : ℕ). permute primitive (at_place 7 (select select_8 (bits 6 x)))) (sym (div-one b)) in
    let t2 = both (v1) v2 _ _ h1 h2 (length-placed 0 select_1 (bits 6 (a / 2 ^ 24)) (omega arith))
    (length-placed 1 select_2 (bits 6 (b / 2 ^ 24)) (omega arith)) in
    let t3 = both (bit_xor (v1) v2) v3 _ _ t2.0 h3 (t2.1)
    (length-placed 2 select_3 (bits 6 (a / 2 ^ 16)) (omega arith)) in
    let t4 = both (bit_xor (bit_xor (v1) v2) v3) v4 _ _ t3.0 h4 (t3.1)
    (length-placed 3 select_4 (bits 6 (b / 2 ^ 16)) (omega arith)) in
    let t5 = both (bit_xor (bit_xor (bit_xor (v1) v2) v3) v4) v5 _ _ t4.0 h5 (t4.1)
    (length-placed 4 select_5 (bits 6 (a / 2 ^ 8)) (omega arith)) in
    let t6 = both (bit_xor (bit_xor (bit_xor (bit_xor (v1) v2) v3) v4) v5) v6 _ _ t5.0 h6 (t5.1)
    (length-placed 5 select_6 (bits 6 (b / 2 ^ 8)) (omega arith)) in
    let t7 = both (bit_xor (bit_xor (bit_xor (bit_xor (bit_xor (v1) v2) v3) v4) v5) v6) v7 _ _ t6.0 g7 (t6.1)
    (length-placed 6 select_7 (bits 6 (a / 2 ^ 0)) (omega arith)) in
    let t8 = both (bit_xor (bit_xor (bit_xor (bit_xor (bit_xor (bit_xor (v1) v2) v3) v4) v5) v6) v7) v8 _ _ t7.0 g8
    (t7.1) (length-placed 7 select_8 (bits 6 (b / 2 ^ 0)) (omega arith)) in
    let joined = selects_join (bits 6 (a / 2 ^ 24)) (bits 6 (b / 2 ^ 24)) (bits 6 (a / 2 ^ 16)) (bits 6 (b / 2 ^ 16))
    (bits 6 (a / 2 ^ 8)) (bits 6 (b / 2 ^ 8)) (bits 6 (a / 2 ^ 0)) (bits 6 (b / 2 ^ 0)) in
    t8.0
    ∙ ap (permute primitive) (joined ∙ sym (select_all-groups a b)
    ∙ ap (select_all selections) (groups-xor (odd_groups r) (even_groups r) odd even
    ∙ ap (λ (e : List Bool). xor_bits e (groups odd even)) (expansion_is r fits)))
