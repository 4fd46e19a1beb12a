-- Lists of edits whose offsets rise, looked through one by one.
use Rattle.std.proofs.Common.{◌≡◌, ℕ, zero, suc, ◌+◌, ◌<◌, ◌≤◌, List, [], ◌∷◌, ◌++◌, length, map, drop, true, refl, ap, ◌∙◌, arith, length-append, length-drop}
use Rattle.std.specs.Prelude.{slice_index, All, replicate}
use Rattle.std.specs.List.{AllByRecursion}
use Rattle.std.specs.List.Sorted.{IsStrictlyIncreasing}
use Rattle.std.proofs.lemmas.Bool.Decides.{nat_tests}
use Rattle.std.proofs.lemmas.List.{take_at}
use Rattle.std.proofs.lemmas.List.Elements.{All-from_recursion, recursion_from_All}
use Rattle.events.specs.Edits.{AreEdits}
use Rattle.events.specs.inside.Edits.{IsKept, rise_from}

abbrev IsLow : ℕ × ℕ → Type 0
IsLow pair = pair.0 < 128

abbrev IsChange : ℕ × ℕ → Type 0
IsChange pair = (0 < pair.1) × (pair.1 < 256)

abbrev offsets : List (ℕ × ℕ) → List ℕ
offsets pairs = map (λ pair. pair.0) pairs

pub record Rises (least : ℕ) (pair : ℕ × ℕ) (pairs : List (ℕ × ℕ)) : Type 0 where
  pub above : least ≤ pair.0
  pub low : pair.0 < 128
  pub changed : 0 < pair.1
  pub rest : rise_from (pair.0 + 1) pairs ≡ true

rises : (least : ℕ) (pair : ℕ × ℕ) (pairs : List (ℕ × ℕ)) → rise_from least (pair ∷ pairs) ≡ true
    → Rises least pair pairs
rises least pair pairs h = record {
  above = grind (arith, nat_tests);
  low = grind (arith, nat_tests);
  changed = grind (arith, nat_tests);
  rest = grind (arith, nat_tests);
}

all_low : (least : ℕ) (pairs : List (ℕ × ℕ)) → rise_from least pairs ≡ true → AllByRecursion IsLow pairs
all_low least [] h = tt
all_low least (pair ∷ pairs) h = let r = rises least pair pairs h in (r.low, all_low (pair.0 + 1) pairs r.rest)

all_changes : (least : ℕ) (pairs : List (ℕ × ℕ)) → rise_from least pairs ≡ true
    → AllByRecursion (λ pair. pair.1 < 256) pairs → AllByRecursion IsChange pairs
all_changes least [] h fits = tt
all_changes least (pair ∷ pairs) h fits =
    let r = rises least pair pairs h in
    ((r.changed, fits.0), all_changes (pair.0 + 1) pairs r.rest fits.1)

rising_on : (x : ℕ) (xs : List ℕ) (k : ℕ) → slice_index xs k < slice_index xs (k + 1)
    → slice_index (x ∷ xs) (suc k) < slice_index (x ∷ xs) (suc k + 1)
rising_on x xs k h = let further : suc k + 1 ≡ suc (k + 1) = omega arith in rw further h

all_rise : (least : ℕ) (pairs : List (ℕ × ℕ)) → rise_from least pairs ≡ true → IsStrictlyIncreasing (offsets pairs)
all_rise least [] h k within = absurd (omega arith)
all_rise least (pair ∷ []) h k within = absurd (omega arith)
all_rise least (pair ∷ next ∷ pairs) h zero within =
    let r = rises least pair (next ∷ pairs) h in
    let above = (rises (pair.0 + 1) next pairs r.rest).above in
    omega arith
all_rise least (pair ∷ next ∷ pairs) h (suc k) within =
    let r = rises least pair (next ∷ pairs) h in
    rising_on pair.0 (offsets (next ∷ pairs)) k (all_rise (pair.0 + 1) (next ∷ pairs) r.rest k (omega arith))

-- what rises step by step rises
pub are_edits : (pairs : List (ℕ × ℕ)) → 0 < length pairs → length pairs ≤ 8 → All (λ pair. pair.1 < 256) pairs
    → rise_from 0 pairs ≡ true → AreEdits pairs
are_edits pairs some few fits h = record {
  some = some;
  few = few;
  offsets = All-from_recursion IsLow pairs (all_low 0 pairs h);
  changes = All-from_recursion IsChange pairs
      (all_changes 0 pairs h (recursion_from_All (λ pair. pair.1 < 256) pairs fits));
  rising = all_rise 0 pairs h;
}

rising_behind : (x : ℕ) (xs : List ℕ) → IsStrictlyIncreasing (x ∷ xs) → IsStrictlyIncreasing xs
rising_behind x xs h k within =
    let further : suc (k + 1) ≡ suc k + 1 = omega arith in
    let step : slice_index xs k < slice_index (x ∷ xs) (suc k + 1) = h (suc k) (omega arith) in
    rw (← further) at step

rising_from : (least : ℕ) (pairs : List (ℕ × ℕ)) → (0 < length pairs → least ≤ slice_index (offsets pairs) 0)
    → AllByRecursion IsLow pairs → AllByRecursion IsChange pairs → IsStrictlyIncreasing (offsets pairs)
    → rise_from least pairs ≡ true
rising_from least [] first low changes rise = refl
rising_from least (pair ∷ []) first low changes rise =
    let from : least ≤ pair.0 = first (omega arith) in
    grind (arith, nat_tests, low.0, changes.0.0)
rising_from least (pair ∷ next ∷ pairs) first low changes rise =
    let from : least ≤ pair.0 = first (omega arith) in
    let above : pair.0 < next.0 = rise 0 (omega arith) in
    let rest = rising_from (pair.0 + 1) (next ∷ pairs) (λ h. omega arith) low.1 changes.1
    (rising_behind pair.0 (offsets (next ∷ pairs)) rise) in
    grind (arith, nat_tests, low.0, changes.0.0, rest)

-- and what rises does so step by step
pub edits_rise : (pairs : List (ℕ × ℕ)) → AreEdits pairs → rise_from 0 pairs ≡ true
edits_rise pairs h =
    rising_from 0 pairs (λ some. omega arith) (recursion_from_All IsLow pairs h.offsets)
    (recursion_from_All IsChange pairs h.changes) h.rising

-- edits with pairs of zeros behind them
pub kept_edits : (pairs kept : List (ℕ × ℕ)) → AreEdits pairs → kept ≡ pairs
    → IsKept (record { length = length pairs; pairs = kept ++ drop (length pairs) (replicate 8 (0, 0)) })
kept_edits pairs kept edits same =
    let len : length kept ≡ length pairs = ap length same in
    record {
      short = edits.few;
      wide = length-append kept (drop (length pairs) (replicate 8 (0, 0)))
          ∙ omega (arith, edits.few, length-drop {A = ℕ × ℕ} (length pairs) (replicate 8 (0, 0)));
      edits = rw (take_at kept (drop (length pairs) (replicate 8 (0, 0))) (length pairs) len, same) edits;
    }
