-- The word forms of the initial permutation, its inverse and permuted choice 1 are the tables.
use Rattle.std.proofs.Common.{◌≡◌, ℕ, ◌*◌, ◌/◌, ◌%◌, ◌^◌, ◌<◌, true, bit_xor, bit_and, refl, ap, ◌∙◌}
use Rattle.des_cbc.specs.Tables.{initial, inverse_initial, choice_1}
use Rattle.des_cbc.specs.Bits.{bits, permute}
use Rattle.des_cbc.specs.inside.Words.{exchanged, initial_word, final_word, columns, gathered, choice_word}
use Rattle.des_cbc.proofs.Additive.{same_bits, agree, same_if_agree}
use Rattle.des_cbc.proofs.Linear.{Linear, linear_sum, linear_then, linear_shr_and, linear_shl_and, linear_exchanged, additive_bits, additive_permute}

-- five steps, one after another
five : (f g h i j : ℕ → ℕ) → Linear f → Linear g → Linear h → Linear i → Linear j → Linear (λ x. j (i (h (g (f x)))))
five f g h i j df dg dh di dj =
    record {
      step = λ x y.
          ap (λ (n : ℕ). j (i (h (g n)))) (df.step x y) ∙ ap (λ (n : ℕ). j (i (h n))) (dg.step (f x) (f y))
          ∙ ap (λ (n : ℕ). j (i n)) (dh.step (g (f x)) (g (f y))) ∙ ap j (di.step (h (g (f x))) (h (g (f y))))
          ∙ dj.step (i (h (g (f x)))) (i (h (g (f y))));
    }

linear_initial : Linear initial_word
linear_initial =
    five (exchanged 36 0x0f0f0f0f) (exchanged 48 0xffff) (exchanged 30 0xcccccccc) (exchanged 24 0xff00ff00)
    (exchanged 33 0x55555555)
    (linear_exchanged 36 0x0f0f0f0f) (linear_exchanged 48 0xffff) (linear_exchanged 30 0xcccccccc)
    (linear_exchanged 24 0xff00ff00) (linear_exchanged 33 0x55555555)

linear_final : Linear final_word
linear_final =
    five (exchanged 33 0x55555555) (exchanged 24 0xff00ff00) (exchanged 30 0xcccccccc) (exchanged 48 0xffff)
    (exchanged 36 0x0f0f0f0f)
    (linear_exchanged 33 0x55555555) (linear_exchanged 24 0xff00ff00) (linear_exchanged 30 0xcccccccc)
    (linear_exchanged 48 0xffff) (linear_exchanged 36 0x0f0f0f0f)

linear_rows : Linear (λ x. exchanged 14 0x0000cccc0000cccc
    (exchanged 7 0x00aa00aa00aa00aa (exchanged 32 0xffffffff
    (exchanged 16 0x0000ffff0000ffff (exchanged 8 0x00ff00ff00ff00ff x)))))
linear_rows =
    five (exchanged 8 0x00ff00ff00ff00ff) (exchanged 16 0x0000ffff0000ffff) (exchanged 32 0xffffffff)
    (exchanged 7 0x00aa00aa00aa00aa) (exchanged 14 0x0000cccc0000cccc)
    (linear_exchanged 8 0x00ff00ff00ff00ff) (linear_exchanged 16 0x0000ffff0000ffff) (linear_exchanged 32 0xffffffff)
    (linear_exchanged 7 0x00aa00aa00aa00aa) (linear_exchanged 14 0x0000cccc0000cccc)

linear_columns : Linear columns
linear_columns =
    linear_then (λ x. exchanged 14 0x0000cccc0000cccc
    (exchanged 7 0x00aa00aa00aa00aa (exchanged 32 0xffffffff
    (exchanged 16 0x0000ffff0000ffff (exchanged 8 0x00ff00ff00ff00ff x)))))
    (exchanged 28 0xf0f0f0f0) linear_rows (linear_exchanged 28 0xf0f0f0f0)

linear_gathered : Linear gathered
linear_gathered =
    let two : Linear (λ t. bit_xor (bit_and (t / 2 ^ 8) 0xfffffff0000000) (bit_and (t * 2 ^ 12 % 2 ^ 64) 0xff00000)) =
    linear_sum (λ t. bit_and (t / 2 ^ 8) 0xfffffff0000000) (λ t. bit_and (t * 2 ^ 12 % 2 ^ 64) 0xff00000)
    (linear_shr_and 8 0xfffffff0000000) (linear_shl_and 12 0xff00000) in
    let three : Linear (λ t. bit_xor (bit_xor (bit_and (t / 2 ^ 8) 0xfffffff0000000)
    (bit_and (t * 2 ^ 12 % 2 ^ 64) 0xff00000)) (bit_and (t / 2 ^ 4) 0xff000)) =
    linear_sum (λ t. bit_xor (bit_and (t / 2 ^ 8) 0xfffffff0000000) (bit_and (t * 2 ^ 12 % 2 ^ 64) 0xff00000))
    (λ t. bit_and (t / 2 ^ 4) 0xff000) two (linear_shr_and 4 0xff000) in
    let four : Linear (λ t. bit_xor (bit_xor (bit_xor (bit_and (t / 2 ^ 8) 0xfffffff0000000)
    (bit_and (t * 2 ^ 12 % 2 ^ 64) 0xff00000)) (bit_and (t / 2 ^ 4) 0xff000)) (bit_and (t / 2 ^ 20) 0xff0)) =
    linear_sum (λ t. bit_xor (bit_xor (bit_and (t / 2 ^ 8) 0xfffffff0000000) (bit_and (t * 2 ^ 12 % 2 ^ 64) 0xff00000))
    (bit_and (t / 2 ^ 4) 0xff000)) (λ t. bit_and (t / 2 ^ 20) 0xff0) three (linear_shr_and 20 0xff0) in
    linear_sum (λ t. bit_xor (bit_xor (bit_xor (bit_and (t / 2 ^ 8) 0xfffffff0000000)
    (bit_and (t * 2 ^ 12 % 2 ^ 64) 0xff00000)) (bit_and (t / 2 ^ 4) 0xff000)) (bit_and (t / 2 ^ 20) 0xff0))
    (λ t. bit_and (t / 2 ^ 32) 0xf) four (linear_shr_and 32 0xf)

linear_choice : Linear choice_word
linear_choice = record {
  step = λ x y. ap gathered (linear_columns.step x y)
      ∙ linear_gathered.step (columns x) (columns y);
}

-- ---- the tables

initial_agrees : agree (λ x. bits 64 (initial_word x)) (λ x. permute initial (bits 64 x)) 64 ≡ true
unfolding agree same_bits bits permute initial
initial_agrees = refl

pub initial_is : (x : ℕ) → x < 2 ^ 64 → bits 64 (initial_word x) ≡ permute initial (bits 64 x)
initial_is x h =
    same_if_agree (λ x. bits 64 (initial_word x)) (λ x. permute initial (bits 64 x))
    (additive_bits 64 initial_word linear_initial) (additive_permute 64 initial) 64 initial_agrees x h

final_agrees : agree (λ x. bits 64 (final_word x)) (λ x. permute inverse_initial (bits 64 x)) 64 ≡ true
unfolding agree same_bits bits permute inverse_initial
final_agrees = refl

pub final_is : (x : ℕ) → x < 2 ^ 64 → bits 64 (final_word x) ≡ permute inverse_initial (bits 64 x)
final_is x h =
    same_if_agree (λ x. bits 64 (final_word x)) (λ x. permute inverse_initial (bits 64 x))
    (additive_bits 64 final_word linear_final) (additive_permute 64 inverse_initial) 64 final_agrees x h

choice_agrees : agree (λ x. bits 56 (choice_word x)) (λ x. permute choice_1 (bits 64 x)) 64 ≡ true
unfolding agree same_bits bits permute choice_1
choice_agrees = refl

pub choice_is : (x : ℕ) → x < 2 ^ 64 → bits 56 (choice_word x) ≡ permute choice_1 (bits 64 x)
choice_is x h =
    same_if_agree (λ x. bits 56 (choice_word x)) (λ x. permute choice_1 (bits 64 x))
    (additive_bits 56 choice_word linear_choice) (additive_permute 64 choice_1) 64 choice_agrees x h
