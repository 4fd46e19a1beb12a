-- A chain that is taken back, with the check chain beside it.
use Rattle.std.proofs.Common.{◌≡◌, ℕ, ◌+◌, ◌-◌, ◌*◌, ◌/◌, ◌%◌, ◌^◌, ◌<◌, ◌≤◌, Bool, IsTrue, ◌↔◌, List, [], ◌∷◌, ◌++◌, reverse, length, take, drop, bit_xor, refl, sym, ap, ap₂, ◌∙◌, arith, append_assoc, take_all}
use Rattle.std.proofs.lemmas.List.{length-take-le, reverse-reverse}
use Rattle.des_cbc.specs.Bits.{bits, number, xor_bits, block_bits, block_bytes, text_bits}
use Rattle.des_cbc.specs.inside.BitLaws.{length-bits, number-bits, length-block_bytes, block_bits-block_bytes}
use Rattle.des_cbc.specs.inside.TextLaws.{no_blocks, text_bits-push}
use Rattle.des_cbc.specs.Cipher.{cipher}
use Rattle.des_cbc.specs.Chaining.{unchain}
use Rattle.des_cbc.specs.Sealing.{last_output, check_of}
use Rattle.des_cbc.specs.inside.Words.{IsUnsealed}
use Rattle.des_cbc.proofs.Additive.{bits-bit_xor}
use Rattle.des_cbc.proofs.ChainWalk.{rest_bits, no_bits, all_bits, unchain-next}

-- the blocks so far, and one more
written_bits : (old new : List ℕ) (i p : ℕ) → 8 * i ≤ length old
    → take (8 * i + 8) new ≡ take (8 * i) old ++ block_bytes (bits 64 p)
    → text_bits (take (8 * (i + 1)) new) ≡ text_bits (take (8 * i) old) ++ bits 64 p ∷ []
written_bits old new i p len h =
    let end : 8 * (i + 1) ≡ 8 * i + 8 = omega arith in
    ap text_bits (ap (λ (k : ℕ). take k new) end ∙ h)
    ∙ text_bits-push i (take (8 * i) old) (block_bytes (bits 64 p)) (length-take-le (8 * i) old len)
    (length-block_bytes (bits 64 p))
    ∙ ap (λ (b : List Bool). text_bits (take (8 * i) old) ++ b ∷ [])
    (block_bits-block_bytes (bits 64 p) (length-bits 64 p))

last_output-push : (ks : List (List Bool)) (c : List Bool) (ps : List (List Bool)) (p : List Bool)
    → last_output ks c (ps ++ p ∷ []) ≡ cipher ks (xor_bits p (last_output ks c ps))
unfolding last_output
last_output-push ks c [] p = refl
last_output-push ks c (q ∷ ps) p = last_output-push ks (cipher ks (xor_bits q c)) ps p

-- what the loop keeps: the blocks so far and those to come are the whole chain, and the check chain
-- has come as far as the blocks
pub record IsUnderWay (backward check : List (List Bool)) (nonce : ℕ) (text plain : List ℕ)
    (n i before input : ℕ) : Type 0 where
  pub blocks : text_bits (take (8 * i) plain) ++ unchain (reverse backward) (bits 64 before) (rest_bits text n i)
      ≡ unchain (reverse backward) (bits 64 nonce) (text_bits text)
  pub checked : check_of check (bits 64 nonce) (text_bits (take (8 * i) plain)) ≡ cipher check (bits 64 input)

none_written : (plain : List ℕ) (k : ℕ) → k ≡ 0 → text_bits (take k plain) ≡ []
none_written plain k h = ap (λ (j : ℕ). text_bits (take j plain)) h ∙ no_blocks

pub under_way-first : (backward check : List (List Bool)) (nonce : ℕ) (text plain : List ℕ) (n : ℕ)
    → n ≡ length text / 8
    → IsUnderWay backward check nonce text plain n 0 nonce nonce
unfolding last_output
under_way-first backward check nonce text plain n h =
    let none = none_written plain (8 * 0) (omega arith) in
    record {
      blocks =
          ap (λ (bs : List (List Bool)). bs ++ unchain (reverse backward) (bits 64 nonce) (rest_bits text n 0)) none
          ∙ ap (unchain (reverse backward) (bits 64 nonce))
          (all_bits text n (n - 0) (8 * 0) h (omega arith) (omega arith));
      checked = ap (check_of check (bits 64 nonce)) none;
    }

-- one block more
pub under_way-next : (backward check : List (List Bool)) (nonce : ℕ) (text old new : List ℕ)
    (n i block before input output check_output : ℕ) → i < n → 8 * i ≤ length old
    → bits 64 block ≡ block_bits (take 8 (drop (8 * i) text))
    → bits 64 output ≡ cipher backward (bits 64 block) → bits 64 check_output ≡ cipher check (bits 64 input)
    → take (8 * i + 8) new ≡ take (8 * i) old ++ block_bytes (bits 64 (bit_xor output before))
    → IsUnderWay backward check nonce text old n i before input
    → IsUnderWay backward check nonce text new n (i + 1) block (bit_xor (bit_xor output before) check_output)
under_way-next backward check nonce text old new n i block before input output check_output lt len hb ho hc hs h =
    let p : ℕ = bit_xor output before in
    let back = ho ∙ ap (λ (ks : List (List Bool)). cipher ks (bits 64 block)) (sym (reverse-reverse backward)) in
    let next = unchain-next (reverse backward) text n i block before output lt hb back in
    let more = written_bits old new i p len hs in
    record {
      blocks =
          ap (λ (bs : List (List Bool)). bs ++ unchain (reverse backward) (bits 64 block) (rest_bits text n (i + 1)))
          more
          ∙ append_assoc (text_bits (take (8 * i) old)) (bits 64 p ∷ []) _
          ∙ ap (λ (bs : List (List Bool)). text_bits (take (8 * i) old) ++ bs) (sym next) ∙ h.blocks;
      checked =
          ap (check_of check (bits 64 nonce)) more
          ∙ last_output-push check (cipher check (bits 64 nonce)) (text_bits (take (8 * i) old)) (bits 64 p)
          ∙ ap (λ (x : List Bool). cipher check (xor_bits (bits 64 p) x)) (h.checked ∙ sym hc)
          ∙ ap (cipher check) (sym (bits-bit_xor 64 p check_output));
    }

-- words are equal where their bits are
same_word : (x y : ℕ) → x < 2 ^ 64 → y < 2 ^ 64 → bits 64 x ≡ bits 64 y → x ≡ y
same_word x y hx hy e =
    let numbers : x % 2 ^ 64 ≡ y % 2 ^ 64 = sym (number-bits 64 x) ∙ ap number e ∙ number-bits 64 y in
    omega arith

-- the last block and the check block
pub unsealed_is : (backward check : List (List Bool)) (nonce : ℕ) (text plain : List ℕ)
    (n i k block before input output check_output : ℕ) (answer : Bool) → n ≡ i + 1 → k ≡ 8 * i → length plain ≡ 8 * i
    → bits 64 block ≡ block_bits (take 8 (drop k text))
    → bits 64 output ≡ cipher backward (bits 64 block) → bits 64 check_output ≡ cipher check (bits 64 input)
    → bit_xor output before < 2 ^ 64 → check_output < 2 ^ 64
    → (IsTrue answer ↔ (bit_xor output before ≡ check_output))
    → IsUnderWay backward check nonce text plain n i before input
    → IsUnsealed backward check (bits 64 nonce) text plain answer
unfolding unchain
unsealed_is backward check nonce text plain n i k block before input output check_output answer hn hk len hb ho hc
    small small' ha h =
    let p : ℕ = bit_xor output before in
    let back = ho ∙ ap (λ (ks : List (List Bool)). cipher ks (bits 64 block)) (sym (reverse-reverse backward)) in
    let at = hb ∙ ap (λ (j : ℕ). block_bits (take 8 (drop j text))) hk in
    let next = unchain-next (reverse backward) text n i block before output (omega arith) at back in
    let whole : text_bits (take (8 * i) plain) ≡ text_bits plain =
    ap text_bits (take_all (8 * i) plain (omega arith)) in
    let check_is : bits 64 check_output ≡ check_of check (bits 64 nonce) (text_bits plain) = hc ∙ sym h.checked
    ∙ ap (check_of check (bits 64 nonce)) whole in
    record {
      last = bits 64 p;
      blocks =
          sym h.blocks
          ∙ ap₂ (λ (ds bs : List (List Bool)). ds ++ bs) whole
          (next ∙ ap (λ (bs : List (List Bool)). bits 64 p ∷ unchain (reverse backward) (bits 64 block) bs)
          (no_bits text n (i + 1) (sym hn)));
      checked = (
        λ t. ap (bits 64) (ha.0 t) ∙ check_is,
        λ e. ha.1 (same_word p check_output small small' (e ∙ sym check_is)),
      );
    }
