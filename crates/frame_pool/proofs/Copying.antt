-- Blocks that are copied one after another.
use Rattle.std.proofs.Common.{◌≡◌, ℕ, ◌+◌, ◌-◌, ◌*◌, ◌<◌, List, ◌++◌, length, get_or, take, drop, Option, None, is_some, true, sym, ◌∙◌, ap, arith}
use Rattle.std.specs.Prelude.{min}
use Rattle.std.specs.Int.{div_ceil}
use Rattle.std.proofs.lemmas.Grind.{div_ceil_times}
use Rattle.std.proofs.lemmas.List.{length-take-le}
use Rattle.std.proofs.lemmas.Slice.{take-put_mid}
use borrow.Rule.Slice.PartMut.{put_mid}
use Rattle.frame_pool.specs.Pools.{joined}
use Rattle.frame_pool.proofs.Blocks.{AreFull, block_at, joined_more}

-- each counted block begins within the bytes
pub begins_within : (n i blocks : ℕ) → blocks ≡ div_ceil n 88 → i < blocks → 88 * i < n
begins_within n i blocks is lt = let most = div_ceil_times n 88 (omega arith) in omega (arith, most.1, is, lt)

-- the next block is copied, as far as there is room for it
pub copied_more : (places : List (Option (List ℕ))) (first i n end : ℕ) (out part : List ℕ) → AreFull places
    → ((k : ℕ) → k < i + 1 → is_some (get_or places (first + k) None) ≡ true)
    → length out ≡ n → 88 * i < n → end ≡ min n (88 * i + 88)
    → part ≡ take (end - 88 * i) (block_at places (first + i))
    → take (min n (88 * i)) out ≡ take (min n (88 * i)) (joined (drop first places))
    → take (min n (88 * (i + 1))) (put_mid (88 * i) (end - 88 * i) out part)
    ≡ take (min n (88 * (i + 1))) (joined (drop first places))
copied_more places first i n end out part full held long lt is copied before =
    let all = joined (drop first places) in
    let start = 88 * i in
    let size = end - start in
    let whole = full (first + i) (held i (omega arith)) in
    let sized : length part ≡ size =
    ap length copied ∙ length-take-le size (block_at places (first + i)) (omega (arith, whole, is)) in
    let was : min n (88 * i) ≡ start = omega (arith, lt) in
    let now : min n (88 * (i + 1)) ≡ start + size = omega (arith, lt, is) in
    ap (λ (k : ℕ). take k (put_mid start size out part)) now
    ∙ take-put_mid start size out part (start + size) (omega (arith, sized)) (omega (arith, long, lt))
    ∙ ap (λ (bytes : List ℕ). bytes ++ part)
    (ap (λ (k : ℕ). take k out) (sym was) ∙ before ∙ ap (λ (k : ℕ). take k all) was)
    ∙ ap (λ (bytes : List ℕ). take start all ++ bytes) copied
    ∙ joined_more places first i size full held (omega (arith, is))
    ∙ ap (λ (k : ℕ). take k all) (sym now)
