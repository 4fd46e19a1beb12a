-- The loops over the blocks of a text.
use Rattle.std.proofs.Common.{◌≡◌, ℕ, suc, ◌+◌, ◌-◌, ◌*◌, ◌/◌, ◌<◌, ◌≤◌, Bool, List, [], ◌∷◌, ◌++◌, map, length, take, drop, bit_xor, refl, sym, ap, ap₂, ◌∙◌, arith, append_assoc, append-nil, take_all, drop-drop}
use Rattle.seal_core.specs.Blocks.{first_blocks, blocks}
use Rattle.des_cbc.specs.Tables.{initial}
use Rattle.des_cbc.specs.inside.Words.{unpermuted}
use Rattle.des_cbc.specs.Bits.{bits, xor_bits, permute, block_bits, block_bytes, text_bits, text_bytes}
use Rattle.des_cbc.specs.Cipher.{cipher, decipher}
use Rattle.des_cbc.specs.Chaining.{chain, unchain}
use Rattle.des_cbc.proofs.Additive.{bits-bit_xor}
use Rattle.des_cbc.proofs.RoundWalk.{unpermuted_is, unpermuted-xor}

-- the blocks from the i-th of n on
next_block : (text : List ℕ) (i n : ℕ) → i < n
    → first_blocks (n - i) (drop (8 * i) text) ≡ take 8 (drop (8 * i) text)
    ∷ first_blocks (n - (i + 1)) (drop (8 * (i + 1)) text)
unfolding first_blocks
next_block text i n h =
    let left : n - i ≡ suc (n - (i + 1)) = omega arith in
    let end : 8 * (i + 1) ≡ 8 * i + 8 = omega arith in
    let rest : drop 8 (drop (8 * i) text) ≡ drop (8 * (i + 1)) text = drop-drop 8 (8 * i) text
    ∙ ap (λ (k : ℕ). drop k text) (sym end) in
    ap (λ (k : ℕ). first_blocks k (drop (8 * i) text)) left
    ∙ ap (λ (t : List ℕ). take 8 (drop (8 * i) text) ∷ first_blocks (n - (i + 1)) t) rest

no_blocks : (text : List ℕ) (i n : ℕ) → i ≡ n → first_blocks (n - i) (drop (8 * i) text) ≡ []
unfolding first_blocks
no_blocks text i n h =
    let none : n - i ≡ 0 = omega arith in
    ap (λ (k : ℕ). first_blocks k (drop (8 * i) text)) none

all_blocks : (text : List ℕ) (n i : ℕ) → n ≡ length text / 8 → i ≡ 0 → first_blocks n (drop i text) ≡ blocks text
unfolding blocks
all_blocks text n i h k = ap₂ (λ (m j : ℕ). first_blocks m (drop j text)) h k

-- the bits of the blocks from the i-th of n on
abbrev pub rest_bits : List ℕ → ℕ → ℕ → List (List Bool)
rest_bits text n i = map block_bits (first_blocks (n - i) (drop (8 * i) text))

pub next_bits : (text : List ℕ) (n i : ℕ) → i < n
    → rest_bits text n i ≡ block_bits (take 8 (drop (8 * i) text)) ∷ rest_bits text n (i + 1)
next_bits text n i h = ap (map block_bits) (next_block text i n h)

pub no_bits : (text : List ℕ) (n i : ℕ) → i ≡ n → rest_bits text n i ≡ []
no_bits text n i h = ap (map block_bits) (no_blocks text i n h)

pub all_bits : (text : List ℕ) (n m i : ℕ) → n ≡ length text / 8 → m ≡ n → i ≡ 0
    → map block_bits (first_blocks m (drop i text)) ≡ text_bits text
unfolding text_bits
all_bits text n m i h k l = ap (map block_bits) (all_blocks text m i (k ∙ h) l)

-- one block after what is written, and what follows it
pub written_more : (old new done : List ℕ) (i : ℕ) (b : List Bool) (bs cs : List (List Bool))
    → take (8 * i + 8) new ≡ take (8 * i) old ++ block_bytes b → take (8 * i) old ++ text_bytes cs ≡ done → cs ≡ b ∷ bs
    → take (8 * (i + 1)) new ++ text_bytes bs ≡ done
unfolding text_bytes
written_more old new done i b bs cs hs h e =
    let end : 8 * (i + 1) ≡ 8 * i + 8 = omega arith in
    ap (λ (t : List ℕ). t ++ text_bytes bs) (ap (λ (k : ℕ). take k new) end ∙ hs)
    ∙ append_assoc (take (8 * i) old) (block_bytes b) (text_bytes bs)
    ∙ ap (λ (ds : List (List Bool)). take (8 * i) old ++ text_bytes ds) (sym e) ∙ h

pub written_all : (out done : List ℕ) (k : ℕ) (cs : List (List Bool)) → length out ≤ k
    → take k out ++ text_bytes cs ≡ done → cs ≡ [] → out ≡ done
unfolding text_bytes
written_all out done k cs len h e =
    sym (take_all k out len) ∙ sym (append-nil (take k out))
    ∙ ap (λ (bs : List (List Bool)). take k out ++ text_bytes bs) (sym e) ∙ h

-- the first block of a chain whose links are permuted words
pub chain-next : (ks : List (List Bool)) (text : List ℕ) (n i p q before output : ℕ) → i < n
    → bits 64 p ≡ block_bits (take 8 (drop (8 * i) text)) → bits 64 q ≡ permute initial (bits 64 p)
    → unpermuted output ≡ cipher ks (unpermuted (bit_xor q before))
    → chain ks (unpermuted before) (rest_bits text n i) ≡ unpermuted output
    ∷ chain ks (unpermuted output) (rest_bits text n (i + 1))
unfolding chain
chain-next ks text n i p q before output lt hp hq ho =
    let b : List Bool = block_bits (take 8 (drop (8 * i) text)) in
    let link : unpermuted (bit_xor q before) ≡ xor_bits b (unpermuted before) =
    unpermuted-xor q before ∙ ap (λ (x : List Bool). xor_bits x (unpermuted before)) (unpermuted_is p q hq ∙ hp) in
    let is : cipher ks (xor_bits b (unpermuted before)) ≡ unpermuted output = ap (cipher ks) (sym link) ∙ sym ho in
    ap (chain ks (unpermuted before)) (next_bits text n i lt)
    ∙ ap (λ (x : List Bool). x ∷ chain ks x (rest_bits text n (i + 1))) is

pub chain-none : (ks : List (List Bool)) (c : List Bool) (bs : List (List Bool)) → bs ≡ [] → chain ks c bs ≡ []
unfolding chain
chain-none ks c bs e = rw e refl

-- the first block of a chain that is taken back
pub unchain-next : (ks : List (List Bool)) (text : List ℕ) (n i p before output : ℕ) → i < n
    → bits 64 p ≡ block_bits (take 8 (drop (8 * i) text)) → bits 64 output ≡ decipher ks (bits 64 p)
    → unchain ks (bits 64 before) (rest_bits text n i) ≡ bits 64 (bit_xor output before)
    ∷ unchain ks (bits 64 p) (rest_bits text n (i + 1))
unfolding unchain
unchain-next ks text n i p before output lt hp ho =
    let b : List Bool = block_bits (take 8 (drop (8 * i) text)) in
    let is : xor_bits (decipher ks (bits 64 p)) (bits 64 before) ≡ bits 64 (bit_xor output before) =
    ap (λ (x : List Bool). xor_bits x (bits 64 before)) (sym ho) ∙ sym (bits-bit_xor 64 output before) in
    ap (unchain ks (bits 64 before)) (next_bits text n i lt)
    ∙ ap (λ (x : List Bool). xor_bits (decipher ks x) (bits 64 before) ∷ unchain ks x (rest_bits text n (i + 1)))
    (sym hp)
    ∙ ap (λ (x : List Bool). x ∷ unchain ks (bits 64 p) (rest_bits text n (i + 1))) is

pub unchain-none : (ks : List (List Bool)) (c : List Bool) (bs : List (List Bool)) → bs ≡ [] → unchain ks c bs ≡ []
unfolding unchain
unchain-none ks c bs e = rw e refl
