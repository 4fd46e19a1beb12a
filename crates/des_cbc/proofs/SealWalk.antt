-- The two chains of the sealing, side by side.
use Rattle.std.proofs.Common.{◌≡◌, ℕ, ◌+◌, ◌*◌, ◌<◌, ◌≤◌, Bool, List, [], ◌∷◌, ◌++◌, length, take, drop, bit_xor, refl, sym, ap, ap₂, ◌∙◌, append-nil, take_all}
use Rattle.des_cbc.specs.Bits.{bits, xor_bits, block_bits, block_bytes, text_bytes}
use Rattle.des_cbc.specs.Cipher.{cipher}
use Rattle.des_cbc.specs.Chaining.{chain}
use Rattle.des_cbc.specs.Sealing.{last_output}
use Rattle.des_cbc.proofs.Additive.{bits-bit_xor}
use Rattle.des_cbc.proofs.ChainWalk.{rest_bits, next_bits}

-- both chains under way, from the outputs before
abbrev pub both_chains : List (List Bool) → List (List Bool) → List Bool → List Bool → List (List Bool)
    → List (List Bool)
both_chains main check before check_before ps = chain main before (ps ++ last_output check check_before ps ∷ [])

-- an output of a word
output_is : (ks : List (List Bool)) (b : List Bool) (p before output : ℕ) → bits 64 p ≡ b
    → bits 64 output ≡ cipher ks (bits 64 (bit_xor p before))
    → cipher ks (xor_bits b (bits 64 before)) ≡ bits 64 output
output_is ks b p before output hp ho =
    ap (λ (x : List Bool). cipher ks (xor_bits x (bits 64 before))) (sym hp)
    ∙ ap (cipher ks) (sym (bits-bit_xor 64 p before)) ∙ sym ho

pub both-next : (main check : List (List Bool)) (text : List ℕ) (n i p before check_before output check_output : ℕ)
    → i < n
    → bits 64 p ≡ block_bits (take 8 (drop (8 * i) text))
    → bits 64 output ≡ cipher main (bits 64 (bit_xor p before))
    → bits 64 check_output ≡ cipher check (bits 64 (bit_xor p check_before))
    → both_chains main check (bits 64 before) (bits 64 check_before) (rest_bits text n i)
    ≡ bits 64 output ∷ both_chains main check (bits 64 output) (bits 64 check_output) (rest_bits text n (i + 1))
unfolding chain last_output
both-next main check text n i p before check_before output check_output lt hp ho hc =
    let b : List Bool = block_bits (take 8 (drop (8 * i) text)) in
    let first = output_is main b p before output hp ho in
    let second = output_is check b p check_before check_output hp hc in
    ap (both_chains main check (bits 64 before) (bits 64 check_before)) (next_bits text n i lt)
    ∙ ap₂ (λ (x y : List Bool). x ∷ both_chains main check x y (rest_bits text n (i + 1))) first second

-- the check block is the last of the chain
pub both-last : (main check : List (List Bool)) (before check_before output : ℕ) (bs : List (List Bool)) → bs ≡ []
    → bits 64 output ≡ cipher main (bits 64 (bit_xor check_before before))
    → both_chains main check (bits 64 before) (bits 64 check_before) bs ≡ bits 64 output ∷ []
unfolding chain last_output
both-last main check before check_before output bs e ho =
    ap (both_chains main check (bits 64 before) (bits 64 check_before)) e
    ∙ ap (λ (x : List Bool). x ∷ []) (output_is main (bits 64 check_before) check_before before output refl ho)

-- the whole text, with its last block
pub sealed_whole : (old new done : List ℕ) (j k : ℕ) (b : List Bool) (cs : List (List Bool)) → j ≡ k
    → length new ≤ k + 8
    → take (k + 8) new ≡ take k old ++ block_bytes b → take j old ++ text_bytes cs ≡ done → cs ≡ b ∷ [] → new ≡ done
unfolding text_bytes
sealed_whole old new done j k b cs jk len hs h e =
    sym (take_all (k + 8) new len) ∙ hs
    ∙ ap₂ (λ (i : ℕ) (t : List ℕ). take i old ++ t) (sym jk) (sym (append-nil (block_bytes b)))
    ∙ ap (λ (bs : List (List Bool)). take j old ++ text_bytes bs) (sym e) ∙ h
