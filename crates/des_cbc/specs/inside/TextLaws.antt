-- Texts of bytes and their blocks of bits.
use Rattle.std.proofs.Common.{◌≡◌, ℕ, zero, suc, ◌+◌, ◌*◌, ◌/◌, ◌%◌, Bool, List, [], ◌∷◌, ◌++◌, map, length, take, drop, refl, sym, ap, ap₂, ◌∙◌, arith, length-append, append_assoc, take_at, drop_at, take-append-drop}
use Rattle.std.proofs.lemmas.List.{take_all, length-take-le, length-drop}
use Rattle.seal_core.specs.Blocks.{AreBytes, first_blocks, blocks}
use Rattle.seal_core.specs.Parts.{AreBytes-append, AreBytes-word, AreBytes-take, AreBytes-drop}
use Rattle.des_cbc.specs.Bits.{number, block_bits, block_bytes, text_bits, text_bytes}
use Rattle.des_cbc.specs.inside.BitLaws.{length-block_bits, length-block_bytes, block_bits-block_bytes, block_bytes-block_bits}

-- each has 64 bits
unfoldable pub AreBlocks : List (List Bool) → Type 0
AreBlocks [] = Unit {0}
AreBlocks (b ∷ bs) = (length b ≡ 64) × AreBlocks bs

pub AreBlocks-append : (ps qs : List (List Bool)) → AreBlocks ps → AreBlocks qs
    → AreBlocks (ps ++ qs)
unfolding AreBlocks
AreBlocks-append [] qs hp hq = hq
AreBlocks-append (p ∷ ps) qs hp hq = (hp.0, AreBlocks-append ps qs hp.1 hq)

AreBlocks-map : (bs : List (List ℕ)) → AreBlocks (map block_bits bs)
unfolding AreBlocks
AreBlocks-map [] = tt
AreBlocks-map (b ∷ bs) = (length-block_bits b, AreBlocks-map bs)

pub AreBlocks-text_bits : (text : List ℕ) → AreBlocks (text_bits text)
unfolding text_bits
AreBlocks-text_bits text = AreBlocks-map (blocks text)

pub length-text_bytes : (bs : List (List Bool)) → length (text_bytes bs) ≡ 8 * length bs
unfolding text_bytes
length-text_bytes [] = refl
length-text_bytes (b ∷ bs) =
    omega (
      arith,
      length-append (block_bytes b) (text_bytes bs),
      length-block_bytes b,
      length-text_bytes bs,
    )

AreBytes-block_bytes : (b : List Bool) → AreBytes (block_bytes b)
unfolding block_bytes
AreBytes-block_bytes b = AreBytes-word (number b)

pub AreBytes-text_bytes : (bs : List (List Bool)) → AreBytes (text_bytes bs)
unfolding text_bytes
AreBytes-text_bytes [] = record { below = λ i. omega arith }
AreBytes-text_bytes (b ∷ bs) = AreBytes-append (block_bytes b) (text_bytes bs)
    (AreBytes-block_bytes b) (AreBytes-text_bytes bs)

-- the text's blocks, counted out
pub counted : (text : List ℕ) (n : ℕ) → length text ≡ 8 * n
    → text_bits text ≡ map block_bits (first_blocks n text)
unfolding text_bits blocks
counted text n h =
    let count : length text / 8 ≡ n = omega arith in
    ap (λ (k : ℕ). map block_bits (first_blocks k text)) count

length-counted : (n : ℕ) (text : List ℕ) → length (map block_bits (first_blocks n text)) ≡ n
unfolding first_blocks
length-counted zero text = refl
length-counted (suc n) text = ap suc (length-counted n (drop 8 text))

pub length-text_bits : (text : List ℕ) (n : ℕ) → length text ≡ 8 * n → length (text_bits text) ≡ n
length-text_bits text n h = ap length (counted text n h) ∙ length-counted n text

-- one block before a text
pub text_bits-block : (b text : List ℕ) (n : ℕ) → length b ≡ 8 → length text ≡ 8 * n
    → text_bits (b ++ text) ≡ block_bits b ∷ text_bits text
unfolding first_blocks
text_bits-block b text n hb ht =
    counted (b ++ text) (suc n) (omega (arith, length-append b text))
    ∙ ap₂ (λ (x y : List ℕ). block_bits x ∷ map block_bits (first_blocks n y)) (take_at b text 8 hb)
    (drop_at b text 8 hb)
    ∙ ap (λ (bs : List (List Bool)). block_bits b ∷ bs) (sym (counted text n ht))

pub no_blocks : text_bits [] ≡ []
unfolding text_bits blocks first_blocks
no_blocks = refl

only_block : (b : List ℕ) → length b ≡ 8 → text_bits ([] ++ b) ≡ text_bits [] ++ block_bits b ∷ []
unfolding first_blocks
only_block b h =
    counted b 1 (omega arith)
    ∙ ap₂ (λ (x : List ℕ) (bs : List (List Bool)). bs ++ block_bits x ∷ [])
    (take_all 8 b (omega arith)) (sym no_blocks)

pub text_bits-text_bytes : (bs : List (List Bool)) → AreBlocks bs → text_bits (text_bytes bs) ≡ bs
unfolding text_bytes AreBlocks
text_bits-text_bytes [] h = no_blocks
text_bits-text_bytes (b ∷ bs) h =
    text_bits-block (block_bytes b) (text_bytes bs) (length bs) (length-block_bytes b)
    (length-text_bytes bs)
    ∙ ap₂ (λ (x : List Bool) (xs : List (List Bool)). x ∷ xs) (block_bits-block_bytes b h.0)
    (text_bits-text_bytes bs h.1)

text_bytes-counted : (n : ℕ) (text : List ℕ) → length text ≡ 8 * n → AreBytes text
    → text_bytes (map block_bits (first_blocks n text)) ≡ text
unfolding text_bytes first_blocks
text_bytes-counted zero [] h k = refl
text_bytes-counted zero (x ∷ text) h k = absurd (omega arith)
text_bytes-counted (suc n) text h k =
    let first : length (take 8 text) ≡ 8 = length-take-le 8 text (omega arith) in
    ap₂ (λ (a b : List ℕ). a ++ b)
    (block_bytes-block_bits (take 8 text) (record { len = first; bytes = AreBytes-take 8 text k }))
    (text_bytes-counted n (drop 8 text) (omega (arith, length-drop 8 text))
    (AreBytes-drop 8 text k))
    ∙ take-append-drop 8 text

pub text_bytes-text_bits : (text : List ℕ) → length text % 8 ≡ 0 → AreBytes text
    → text_bytes (text_bits text) ≡ text
text_bytes-text_bits text h k =
    let count : length text ≡ 8 * (length text / 8) = omega arith in
    ap text_bytes (counted text (length text / 8) count)
    ∙ text_bytes-counted (length text / 8) text count k

-- a block after a text
pub text_bits-push : (n : ℕ) (xs b : List ℕ) → length xs ≡ 8 * n → length b ≡ 8
    → text_bits (xs ++ b) ≡ text_bits xs ++ block_bits b ∷ []
text_bits-push zero [] b hx hb = only_block b hb
text_bits-push zero (x ∷ xs) b hx hb = absurd (omega arith)
text_bits-push (suc n) xs b hx hb =
    let first : length (take 8 xs) ≡ 8 = length-take-le 8 xs (omega arith) in
    let rest : length (drop 8 xs) ≡ 8 * n = omega (arith, length-drop 8 xs) in
    let whole : xs ≡ take 8 xs ++ drop 8 xs = sym (take-append-drop 8 xs) in
    ap text_bits (ap (λ (t : List ℕ). t ++ b) whole ∙ append_assoc (take 8 xs) (drop 8 xs) b)
    ∙ text_bits-block (take 8 xs) (drop 8 xs ++ b) (n + 1) first
    (omega (arith, length-append (drop 8 xs) b))
    ∙ ap (λ (bs : List (List Bool)). block_bits (take 8 xs) ∷ bs)
    (text_bits-push n (drop 8 xs) b rest hb)
    ∙ ap (λ (bs : List (List Bool)). bs ++ block_bits b ∷ [])
    (sym (text_bits-block (take 8 xs) (drop 8 xs) n first rest) ∙ ap text_bits (sym whole))
