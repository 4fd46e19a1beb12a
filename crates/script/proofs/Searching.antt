-- Where a mark stands first, found 32 bytes at a time.
use Rattle.std.proofs.Common.{◌≡◌, ℕ, ◌+◌, ◌-◌, ◌<◌, ◌≤◌, List, [], ◌∷◌, length, take, drop, map, get_or, Bool, true, false, not, eqb, leb, cond, refl, sym, ap, arith}
use Rattle.std.specs.List.{All, prefix_len, slice_split}
use Rattle.std.specs.Int.Count.{count_trailing_zeros}
use Rattle.std.specs.Simd.Lanes.{chunk, mask_l}
use Rattle.std.proofs.lemmas.Bool.Decides.{nat_tests}
use Rattle.std.proofs.lemmas.List.{get_or-take, length-take}
use Rattle.std.proofs.lemmas.List.Sums.{prefix_len-le-length, prefix_len_passes, prefix_len_stops, prefix_len_is}
use Rattle.script.proofs.Cutting.{cut_at, uncut}
use Rattle.std.proofs.lemmas.Simd.{first_set_mask_l, length-chunk, run_in_chunk_fails, run_in_chunk_stops}

-- how many bytes come before the first mark
abbrev pub before : ℕ → List ℕ → ℕ
before mark = prefix_len (λ c. not (eqb c mark))

-- no mark stands before a place
abbrev pub IsClear : ℕ → List ℕ → ℕ → Type 0
IsClear mark text at = (k : ℕ) → k < at → eqb (get_or text k 0) mark ≡ false

first_of_group : (text : List ℕ) (at mark marks : ℕ) → at + 32 ≤ length text
    → marks ≡ mask_l (map (λ c. eqb c mark) (chunk at 32 text))
    → cond (eqb marks 0) 32 (count_trailing_zeros 64 marks) ≡ before mark (chunk at 32 text)
first_of_group text at mark marks fits e =
    rw e (first_set_mask_l (λ c. eqb c mark) (chunk at 32 text) 32 (length-chunk at 32 text fits) (omega arith))

pub group_is_clear : (text : List ℕ) (at mark marks : ℕ) → at + 32 ≤ length text
    → marks ≡ mask_l (map (λ c. eqb c mark) (chunk at 32 text)) → eqb marks 0 ≡ true
    → 32 ≡ before mark (chunk at 32 text)
group_is_clear text at mark marks fits e none = rw none at (first_of_group text at mark marks fits e)

pub group_has_mark : (text : List ℕ) (at mark marks : ℕ) → at + 32 ≤ length text
    → marks ≡ mask_l (map (λ c. eqb c mark) (chunk at 32 text)) → eqb marks 0 ≡ false
    → count_trailing_zeros 64 marks ≡ before mark (chunk at 32 text)
group_has_mark text at mark marks fits e some = rw some at (first_of_group text at mark marks fits e)

-- A group that begins where no mark was passed: so many more bytes are passed.
pub clear_further : (text : List ℕ) (at mark passed : ℕ) → at + 32 ≤ length text
    → passed ≡ before mark (chunk at 32 text) → IsClear mark text at → IsClear mark text (at + passed)
clear_further text at mark passed fits e none k lt = by_place (leb at k) refl
  where
    by_place : (later : Bool) → leb at k ≡ later → eqb (get_or text k 0) mark ≡ false
    by_place true le = run_in_chunk_fails (λ c. eqb c mark) text at 32 passed 0 fits e k (grind (arith, nat_tests)) lt
    by_place false gt = none k (grind (arith, nat_tests))

-- one more byte is no mark
pub clear_more : (text : List ℕ) (mark at : ℕ) → IsClear mark text at → eqb (get_or text at 0) mark ≡ false
    → IsClear mark text (at + 1)
clear_more text mark at none other k lt = by_place (eqb k at) refl
  where
    by_place : (last : Bool) → eqb k at ≡ last → eqb (get_or text k 0) mark ≡ false
    by_place true is = let e : k ≡ at = grind (arith, nat_tests) in rw e other
    by_place false ne = none k (grind (arith, nat_tests))

-- the place of the first mark, or the end
pub first_at : (text : List ℕ) (mark at : ℕ) → at ≤ length text → IsClear mark text at
    → (at < length text → eqb (get_or text at 0) mark ≡ true) → at ≡ before mark text
first_at text mark at le none here =
    sym (prefix_len_is (λ c. not (eqb c mark)) text at 0 le (λ k lt. ap not (none k lt)) (λ lt. ap not (here lt)))

pub first_in_group : (text : List ℕ) (at mark passed : ℕ) → at + 32 ≤ length text
    → passed ≡ before mark (chunk at 32 text) → IsClear mark text at → passed < 32
    → at + passed ≡ before mark text
first_in_group text at mark passed fits e none lt =
    first_at text mark (at + passed) (omega arith) (clear_further text at mark passed fits e none)
    (λ within. run_in_chunk_stops (λ c. eqb c mark) text at 32 passed 0 fits e lt)

pub few_passed : (text : List ℕ) (at mark passed : ℕ) → at + 32 ≤ length text
    → passed ≡ before mark (chunk at 32 text) → passed ≤ 32
few_passed text at mark passed fits e =
    omega (arith, e, prefix_len-le-length (λ c. not (eqb c mark)) (chunk at 32 text), length-chunk at 32 text fits)

-- a whole group without a mark
pub group_passed : (text : List ℕ) (at mark passed : ℕ) → at + 32 ≤ length text
    → passed ≡ before mark (chunk at 32 text) → IsClear mark text at → 32 ≤ passed → IsClear mark text (at + 32)
group_passed text at mark passed fits e none all =
    let few = few_passed text at mark passed fits e in
    let is : passed ≡ 32 = omega arith in
    rw is at (clear_further text at mark passed fits e none)

-- the last group ends where the text does
pub first_in_last : (text : List ℕ) (last mark passed : ℕ) → last + 32 ≡ length text
    → passed ≡ before mark (chunk last 32 text) → IsClear mark text last
    → last + passed ≡ before mark text
first_in_last text last mark passed ends e none =
    let few = few_passed text last mark passed (omega arith) e in
    first_at text mark (last + passed) (omega arith) (clear_further text last mark passed (omega arith) e none)
    (λ within. run_in_chunk_stops (λ c. eqb c mark) text last 32 passed 0 (omega arith) e (omega arith))

not_true : (b : Bool) → not b ≡ true → b ≡ false
not_true true e = absurd cc
not_true false e = refl

pub before_within : (mark : ℕ) (text : List ℕ) → before mark text ≤ length text
before_within mark text = prefix_len-le-length (λ c. not (eqb c mark)) text

-- a text is cut at its first mark
pub before_is_clear : (mark : ℕ) (text : List ℕ) → All (λ c. eqb c mark ≡ false) (take (before mark text) text)
before_is_clear mark text k d lt =
    let within : k < before mark text = omega (arith, lt, length-take (before mark text) text) in
    let passes = prefix_len_passes (λ c. not (eqb c mark)) text k d within in
    rw (get_or-take (before mark text) text k d within) (not_true (eqb (get_or text k d) mark) passes)

pub mark_is_there : (mark : ℕ) (text : List ℕ) → before mark text < length text
    → get_or text (before mark text) 0 ≡ mark
mark_is_there mark text lt =
    let stops = prefix_len_stops (λ c. not (eqb c mark)) text 0 lt in grind (arith, nat_tests)

pub cut_there : (mark : ℕ) (text : List ℕ) (place : ℕ) → place ≡ before mark text → place < length text
    → slice_split (λ c. eqb c mark) text
    ≡ take place text ∷ slice_split (λ c. eqb c mark) (take (length text - (place + 1)) (drop (place + 1) text))
cut_there mark text place e lt =
    cut_at mark text place lt (rw e (mark_is_there mark text (rw e at lt))) (rw e (before_is_clear mark text))

pub never_cut : (mark : ℕ) (text : List ℕ) (place : ℕ) → place ≡ before mark text → place ≡ length text
    → slice_split (λ c. eqb c mark) text ≡ text ∷ []
never_cut mark text place e all = uncut mark text place (omega arith) (rw e (before_is_clear mark text))
