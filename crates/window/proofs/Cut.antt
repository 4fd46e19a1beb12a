-- The bytes of places that are full, cut where the last one ends.
use Rattle.std.proofs.Common.{◌≡◌, ℕ, zero, suc, ◌+◌, ◌*◌, ◌<◌, ◌≤◌, List, [], ◌∷◌, ◌++◌, length, take, drop, true, false, Option, Some, None, is_some, refl, sym, ◌∙◌, ap, arith, append-nil, length-append}
use Rattle.std.specs.Prelude.{◌==◌, unwrap_or, if◌then◌else◌}
use Rattle.std.specs.List.{range_with_len, flat_map}
use Rattle.std.proofs.lemmas.Bool.Decides.{nat_tests}
use Rattle.std.proofs.lemmas.List.{length-take-le, take_all, take-append-le, drop_more}
use Rattle.std.proofs.Math.Seq.{take-append-add}
use Rattle.frame_pool.specs.Pools.{joined}
use Rattle.window.specs.inside.Quarters.{cut, IsWide, quarter_of}

-- the bytes at a place, of so many at the last one
abbrev pub bytes_in : (ℕ → Option (List ℕ)) → ℕ → ℕ → ℕ → List ℕ
bytes_in f last t i = unwrap_or (cut (if i == last then t else 88) (f i)) []

-- each place to the last one has a block
abbrev pub AreBlocks : (ℕ → Option (List ℕ)) → ℕ → ℕ → Type 0
AreBlocks f a last = (i : ℕ) → a ≤ i → i ≤ last → (is_some (f i) ≡ true) × IsWide (f i)

block_of : (o : Option (List ℕ)) → is_some o ≡ true → IsWide o → (b : List ℕ) × (o ≡ Some b) × (length b ≡ 88)
block_of None some wide = cc
block_of (Some b) some wide = (b, refl, wide)

-- the bytes at the last place, and at one before it
last_bytes : (f : ℕ → Option (List ℕ)) (last t a : ℕ) (b : List ℕ) → a ≡ last → f a ≡ Some b
    → bytes_in f last t a ≡ take t b
last_bytes f last t a b is block =
    let here : (a == last) ≡ true = grind (arith, nat_tests, is) in
    rw (here, block) refl

full_bytes : (f : ℕ → Option (List ℕ)) (last t a : ℕ) (b : List ℕ) → a < last → f a ≡ Some b → length b ≡ 88
    → bytes_in f last t a ≡ b
full_bytes f last t a b lt block wide =
    let there : (a == last) ≡ false = grind (arith, nat_tests, lt) in
    rw (there, block) (take_all 88 b (omega (arith, wide)))

-- how many bytes these places have
pub length_cut : (f : ℕ → Option (List ℕ)) (last t a n : ℕ) → a + n ≡ last → t ≤ 88 → AreBlocks f a last
    → length (flat_map (bytes_in f last t) (range_with_len a (n + 1))) ≡ 88 * n + t
length_cut f last t a zero is short blocks =
    let at = blocks a (omega arith) (omega (arith, is)) in
    let b = block_of (f a) at.0 at.1 in
    ap length (append-nil (bytes_in f last t a) ∙ last_bytes f last t a b.0 (omega (arith, is)) b.1)
    ∙ length-take-le t b.0 (omega (arith, short, b.2)) ∙ omega arith
length_cut f last t a (suc n) is short blocks =
    let at = blocks a (omega arith) (omega (arith, is)) in
    let b = block_of (f a) at.0 at.1 in
    let e : suc n + 1 ≡ suc (n + 1) = omega arith in
    let first = full_bytes f last t a b.0 (omega (arith, is)) b.1 b.2 in
    let rest = length_cut f last t (a + 1) n (omega (arith, is)) short
    (λ i lo hi. blocks i (omega (arith, lo)) hi) in
    ap (λ k. length (flat_map (bytes_in f last t) (range_with_len a k))) e
    ∙ length-append (bytes_in f last t a) (flat_map (bytes_in f last t) (range_with_len (a + 1) (n + 1)))
    ∙ omega (arith, ap length first, b.2, rest)

-- they are those of the blocks joined, up to their end
pub joined_cut : (blocks : List (Option (List ℕ))) (k last t a n : ℕ) → a + n ≡ last → t ≤ 88
    → 64 * k + last < length blocks → AreBlocks (quarter_of blocks k) a last
    → flat_map (bytes_in (quarter_of blocks k) last t) (range_with_len a (n + 1))
    ≡ take (88 * n + t) (joined (drop (64 * k + a) blocks))
joined_cut blocks k last t a zero is short long full =
    let f = quarter_of blocks k in
    let at = full a (omega arith) (omega (arith, is)) in
    let b = block_of (f a) at.0 at.1 in
    let rest = joined (drop (64 * k + a + 1) blocks) in
    let front : drop (64 * k + a) blocks ≡ Some b.0 ∷ drop (64 * k + a + 1) blocks =
    drop_more blocks (64 * k + a) None (omega (arith, is, long))
    ∙ ap (λ (o : Option (List ℕ)). o ∷ drop (64 * k + a + 1) blocks) b.1 in
    let e : 88 * 0 + t ≡ t = omega arith in
    append-nil (bytes_in f last t a) ∙ last_bytes f last t a b.0 (omega (arith, is)) b.1
    ∙ sym (ap (λ n. take n (joined (drop (64 * k + a) blocks))) e ∙ ap (λ ps. take t (joined ps)) front
    ∙ take-append-le t b.0 rest (omega (arith, short, b.2)))
joined_cut blocks k last t a (suc n) is short long full =
    let f = quarter_of blocks k in
    let at = full a (omega arith) (omega (arith, is)) in
    let b = block_of (f a) at.0 at.1 in
    let rest = joined (drop (64 * k + a + 1) blocks) in
    let front : drop (64 * k + a) blocks ≡ Some b.0 ∷ drop (64 * k + a + 1) blocks =
    drop_more blocks (64 * k + a) None (omega (arith, is, long))
    ∙ ap (λ (o : Option (List ℕ)). o ∷ drop (64 * k + a + 1) blocks) b.1 in
    let e : suc n + 1 ≡ suc (n + 1) = omega arith in
    let size : 88 * suc n + t ≡ length b.0 + (88 * n + t) = omega (arith, b.2) in
    let place : 64 * k + (a + 1) ≡ 64 * k + a + 1 = omega arith in
    let first = full_bytes f last t a b.0 (omega (arith, is)) b.1 b.2 in
    let more = joined_cut blocks k last t (a + 1) n (omega (arith, is)) short long
    (λ i lo hi. full i (omega (arith, lo)) hi) in
    ap (λ m. flat_map (bytes_in f last t) (range_with_len a m)) e
    ∙ ap (λ bytes. bytes ++ flat_map (bytes_in f last t) (range_with_len (a + 1) (n + 1))) first
    ∙ ap (λ bytes. b.0 ++ bytes) (more ∙ ap (λ p. take (88 * n + t) (joined (drop p blocks))) place)
    ∙ sym (ap (λ m. take m (joined (drop (64 * k + a) blocks))) size
    ∙ ap (λ ps. take (length b.0 + (88 * n + t)) (joined ps)) front
    ∙ take-append-add b.0 rest (88 * n + t))
