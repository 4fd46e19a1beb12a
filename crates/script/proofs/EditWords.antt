-- Words of bytes, and edits, both ways.
use Rattle.std.proofs.Common.{zero, suc, ◌≡◌, ℕ, ◌+◌, ◌-◌, ◌<◌, ◌≤◌, eqb, ltb, leb, List, [], ◌∷◌, ◌++◌, length, map, Option, Some, None, refl, sym, ap, subst, ◌∙◌, arith, lit<, append_assoc}
use Rattle.std.specs.List.{AllByRecursion, list_all}
use Rattle.std.specs.List.Sorted.{IsStrictlyIncreasing}
use Rattle.std.proofs.lemmas.Bool.{eq-eqb, lt-ltb, eqb-true, ltb-true}
use Rattle.std.proofs.lemmas.Bool.Decides.{nat_tests}
use Rattle.std.proofs.lemmas.Grind.{take-set_at}
use Rattle.std.proofs.lemmas.List.{append-nil}
use Rattle.std.proofs.lemmas.List.Elements.{All-from_recursion, recursion_from_All}
use Rattle.std.specs.Prelude.{slice_index, slice_set, take}
use Rattle.seal_core.specs.Blocks.{AreBytes}
use Rattle.file_calls.specs.Names.{is_byte, content_of}
use Rattle.file_calls.specs.ByteLaws.{bytes_pass, are_bytes}
use Rattle.events.specs.Edits.{AreEdits}
use Rattle.events.specs.Words.{hex_word}
use Rattle.script.specs.Spelling.{byte_text, edit_text}
use Rattle.script.specs.Ranges.{InRange, IsContent}
use Rattle.script.specs.Naming.{◌>>=◌}
use Rattle.script.specs.inside.Readers.{is_lower_digit, hex_read, sized, sized_read, content_read, change_of, change_read, together, edit_read, edits_read}
use Rattle.script.proofs.Tools.{bind_some, guard_some, both, some_same, Lacks, lacks}
use Rattle.script.proofs.HexWords.{hex_digits}
use Rattle.script.proofs.Inks.{content_ink, byte_ink}
use Rattle.script.proofs.Spellings.{IsWord, messages, numbers, parted_word, number_lacks_above}

-- ---- bytes

abbrev pub AreSized : ℕ → List ℕ → Type 0
AreSized size bytes = (length bytes ≡ size) × AreBytes bytes

pub sized_words : (size : ℕ) → IsWord hex_word (AreSized size) (sized_read size)
unfolding sized_read
sized_words size = record {
  takes = λ word bytes e. (let h = bind_some (hex_read word) (sized size) bytes e in
      let g = guard_some (eqb (length h.0) size) h.0 bytes h.2 in
      let t = messages.takes word h.0 h.1 in
      subst (λ (b : List ℕ). (word ≡ hex_word b) × AreSized size b) g.1
      (t.0, (eqb-true (length h.0) size g.0, t.1)));
  again = λ bytes fits. rw (messages.again bytes fits.1, eq-eqb (length bytes) size fits.0) refl;
  ink = λ bytes fits. messages.ink bytes fits.1;
}

pub contents : IsWord hex_word IsContent content_read
unfolding content_read
contents = record {
  takes = λ word content e. (let h = bind_some (hex_read word) content_of content e in
      let g = guard_some (leb (length h.0) 4096) h.0 content h.2 in
      let t = messages.takes word h.0 h.1 in
      subst (λ (b : List ℕ). (word ≡ hex_word b) × IsContent b) g.1
      (t.0, rw (g.0, bytes_pass h.0 t.1) refl));
  again = λ content fits. (let b = both (leb (length content) 4096) (list_all is_byte content) fits in
      rw (messages.again content (are_bytes content b.1), b.0) refl);
  ink = λ content fits. content_ink content fits;
}

one_byte : (byte : ℕ) → byte < 256 → AreBytes (byte ∷ [])
one_byte byte lt = record { below = below }
  where
    below : (i : ℕ) → slice_index (byte ∷ []) i < 256
    below zero = lt
    below (suc i) = omega arith

-- a byte other than 0
pub changes : IsWord byte_text (InRange 1 255) change_read
unfolding change_read
changes = record {
  takes = takes;
  again = λ xor fits. rw (
    (sized_words 1).again (xor ∷ []) (refl, one_byte xor (omega (arith, fits.1))),
    lt-ltb 0 xor (omega (arith, fits.0)),
  ) refl;
  ink = λ xor fits. byte_ink xor (omega (arith, fits.1));
}
  where
    of_bytes : (word bytes : List ℕ) (xor : ℕ) → (word ≡ hex_word bytes) → AreSized 1 bytes
        → change_of bytes ≡ Some xor → (word ≡ byte_text xor) × InRange 1 255 xor
    of_bytes word [] xor spelled fits e = absurd cc
    of_bytes word (x ∷ y ∷ bytes) xor spelled fits e = absurd (omega (arith, fits.0))
    of_bytes word (x ∷ []) xor spelled fits e =
        let g = guard_some (ltb 0 x) x xor e in
        let some : 0 < x = ltb-true 0 x g.0 in
        let most : x < 256 = fits.1.below 0 in
        subst (λ (y : ℕ). (word ≡ byte_text y) × InRange 1 255 y) g.1
        (spelled, (omega arith, omega arith))

    takes : (word : List ℕ) (xor : ℕ) → change_read word ≡ Some xor
        → (word ≡ byte_text xor) × InRange 1 255 xor
    takes word xor e =
        let b = bind_some (sized_read 1 word) change_of xor e in
        let t = (sized_words 1).takes word b.0 b.1 in
        of_bytes word b.0 xor t.0 t.1 b.2

-- ---- edits

abbrev IsEdit : ℕ → ℕ × ℕ → Type 0
IsEdit least edit = InRange least 127 edit.0 × InRange 1 255 edit.1

change_lacks : (xor : ℕ) → InRange 1 255 xor → Lacks 94 (byte_text xor)
change_lacks xor fits = lacks is_lower_digit 94 (λ c h. grind (arith, nat_tests)) (byte_text xor)
    (hex_digits (xor ∷ []) (lit< tt) (one_byte xor (omega (arith, fits.1))).below)

edits_from : (least : ℕ) → IsWord edit_text (IsEdit least) (edit_read least)
unfolding edit_read
edits_from least =
    parted_word 94 together (λ (z : ℕ × ℕ). z.0) (λ (z : ℕ × ℕ). z.1) (numbers least 127 (lit< tt))
    changes refl (λ x y. refl) (λ x y. refl) (λ z. refl)
    (λ n fits. number_lacks_above 94 n (lit< tt) (omega (arith, fits.1))) change_lacks

-- edits whose offsets rise from the least one
abbrev pub RisesFrom : ℕ → List (ℕ × ℕ) → Type 0
RisesFrom least [] = Unit {0}
RisesFrom least (edit ∷ edits) = IsEdit least edit × RisesFrom (edit.0 + 1) edits

pub record AreSpelled (room least : ℕ) (words : List (List ℕ)) (edits : List (ℕ × ℕ)) : Type 0 where
  pub spelled : words ≡ map edit_text edits
  pub few : length edits ≤ room
  pub rise : RisesFrom least edits

pub edits_take : (room least : ℕ) (words : List (List ℕ)) (edits : List (ℕ × ℕ))
    → edits_read room least words ≡ Some edits → AreSpelled room least words edits
unfolding edits_read
edits_take room least [] edits e =
    subst (AreSpelled room least []) (some_same [] edits e)
    (record { spelled = refl; few = omega arith; rise = tt })
edits_take zero least (word ∷ words) edits e = absurd cc
edits_take (suc room) least (word ∷ words) edits e =
    let first = bind_some (edit_read least word)
    (λ edit. edits_read room (edit.0 + 1) words >>= λ more. Some (edit ∷ more)) edits e in
    let rest = bind_some (edits_read room (first.0.0 + 1) words) (λ more. Some (first.0 ∷ more))
    edits first.2 in
    let t = (edits_from least).takes word first.0 first.1 in
    let more = edits_take room (first.0.0 + 1) words rest.0 rest.1 in
    subst (AreSpelled (suc room) least (word ∷ words))
    (some_same (first.0 ∷ rest.0) edits rest.2) (record {
      spelled = cc (t.0, more.spelled);
      few = omega (arith, more.few);
      rise = (t.1, more.rise);
    })

pub edits_again : (room least : ℕ) (edits : List (ℕ × ℕ)) → length edits ≤ room
    → RisesFrom least edits → edits_read room least (map edit_text edits) ≡ Some edits
unfolding edits_read
edits_again room least [] few rise = refl
edits_again zero least (edit ∷ edits) few rise = absurd (omega arith)
edits_again (suc room) least (edit ∷ edits) few rise =
    rw (
      (edits_from least).again edit rise.0,
      edits_again room (edit.0 + 1) edits (omega arith) rise.1,
    ) refl

-- ---- edits that rise one by one are edits

abbrev IsLow : ℕ × ℕ → Type 0
IsLow edit = edit.0 < 128

abbrev IsChange : ℕ × ℕ → Type 0
IsChange edit = (0 < edit.1) × (edit.1 < 256)

abbrev offsets : List (ℕ × ℕ) → List ℕ
offsets edits = map (λ edit. edit.0) edits

all_low : (least : ℕ) (edits : List (ℕ × ℕ)) → RisesFrom least edits → AllByRecursion IsLow edits
all_low least [] rise = tt
all_low least (edit ∷ edits) rise =
    (omega (arith, rise.0.0.1), all_low (edit.0 + 1) edits rise.1)

all_changes : (least : ℕ) (edits : List (ℕ × ℕ)) → RisesFrom least edits
    → AllByRecursion IsChange edits
all_changes least [] rise = tt
all_changes least (edit ∷ edits) rise = (
  (omega (arith, rise.0.1.0), omega (arith, rise.0.1.1)),
  all_changes (edit.0 + 1) edits rise.1,
)

rising_on : (x : ℕ) (xs : List ℕ) (k : ℕ) → slice_index xs k < slice_index xs (k + 1)
    → slice_index (x ∷ xs) (suc k) < slice_index (x ∷ xs) (suc k + 1)
rising_on x xs k h = let further : suc k + 1 ≡ suc (k + 1) = omega arith in rw further h

all_rise : (least : ℕ) (edits : List (ℕ × ℕ)) → RisesFrom least edits
    → IsStrictlyIncreasing (offsets edits)
all_rise least [] rise k within = absurd (omega arith)
all_rise least (edit ∷ []) rise k within = absurd (omega arith)
all_rise least (edit ∷ next ∷ edits) rise zero within = omega (arith, rise.1.0.0.0)
all_rise least (edit ∷ next ∷ edits) rise (suc k) within =
    rising_on edit.0 (offsets (next ∷ edits)) k
    (all_rise (edit.0 + 1) (next ∷ edits) rise.1 k (omega arith))

pub rises_are : (edits : List (ℕ × ℕ)) → 0 < length edits → length edits ≤ 8 → RisesFrom 0 edits
    → AreEdits edits
rises_are edits some few rise = record {
  some = some;
  few = few;
  offsets = All-from_recursion IsLow edits (all_low 0 edits rise);
  changes = All-from_recursion IsChange edits (all_changes 0 edits rise);
  rising = all_rise 0 edits rise;
}

rising_behind : (x : ℕ) (xs : List ℕ) → IsStrictlyIncreasing (x ∷ xs) → IsStrictlyIncreasing xs
rising_behind x xs h k within =
    let further : suc (k + 1) ≡ suc k + 1 = omega arith in
    let step : slice_index xs k < slice_index (x ∷ xs) (suc k + 1) = h (suc k) (omega arith) in
    rw (← further) at step

rising_from : (least : ℕ) (edits : List (ℕ × ℕ))
    → (0 < length edits → least ≤ slice_index (offsets edits) 0) → AllByRecursion IsLow edits
    → AllByRecursion IsChange edits → IsStrictlyIncreasing (offsets edits) → RisesFrom least edits
rising_from least [] first low changes rise = tt
rising_from least (edit ∷ []) first low changes rise =
    let from : least ≤ edit.0 = first (omega arith) in
    (((from, omega (arith, low.0)), (omega (arith, changes.0.0), omega (arith, changes.0.1))), tt)
rising_from least (edit ∷ next ∷ edits) first low changes rise =
    let from : least ≤ edit.0 = first (omega arith) in
    let above : edit.0 < next.0 = rise 0 (omega arith) in
    let rest = rising_from (edit.0 + 1) (next ∷ edits) (λ h. omega arith) low.1 changes.1
    (rising_behind edit.0 (offsets (next ∷ edits)) rise) in (
      ((from, omega (arith, low.0)), (omega (arith, changes.0.0), omega (arith, changes.0.1))),
      rest,
    )

pub are_rise : (edits : List (ℕ × ℕ)) → AreEdits edits → RisesFrom 0 edits
are_rise edits are =
    rising_from 0 edits (λ some. omega arith) (recursion_from_All IsLow edits are.offsets)
    (recursion_from_All IsChange edits are.changes) are.rising

-- what some edits and those behind them are together
abbrev pub onto : List (ℕ × ℕ) → Option (List (ℕ × ℕ)) → Option (List (ℕ × ℕ))
onto front None = None
onto front (Some edits) = Some (front ++ edits)

onto_one : (front : List (ℕ × ℕ)) (edit : ℕ × ℕ) (o : Option (List (ℕ × ℕ)))
    → onto front (o >>= λ more. Some (edit ∷ more)) ≡ onto (front ++ edit ∷ []) o
onto_one front edit None = refl
onto_one front edit (Some more) = ap Some (sym (append_assoc front (edit ∷ []) more))

module _ (i least : ℕ) (word : List ℕ) (words : List (List ℕ)) (front : List (ℕ × ℕ))
    (all : Option (List (ℕ × ℕ))) (lt : i < 8) (at : List (List ℕ)) (cut : at ≡ word ∷ words)
    (said : all ≡ onto front (edits_read (8 - i) least at)) where
  one_word : all ≡ onto front (edits_read (suc (8 - (i + 1))) least (word ∷ words))
  one_word = let n : 8 - i ≡ suc (8 - (i + 1)) = omega arith in
      said ∙ ap (λ (k : ℕ). onto front (edits_read k least at)) n
      ∙ ap (λ (ws : List (List ℕ)). onto front (edits_read (suc (8 - (i + 1))) least ws)) cut

  -- one more edit is read
  pub edit_more : (edit : ℕ × ℕ) → edit_read least word ≡ Some edit
      → all ≡ onto (front ++ edit ∷ []) (edits_read (8 - (i + 1)) (edit.0 + 1) words)
  unfolding edits_read
  edit_more edit e =
      one_word ∙ rw e (onto_one front edit (edits_read (8 - (i + 1)) (edit.0 + 1) words))

  -- a word that is no edit
  pub edit_none : edit_read least word ≡ None → all ≡ None
  unfolding edits_read
  edit_none e = one_word ∙ rw e refl

-- the last edit was read
pub edits_end : (all : Option (List (ℕ × ℕ))) (front : List (ℕ × ℕ)) (room least : ℕ)
    → all ≡ onto front (edits_read room least []) → all ≡ Some front
unfolding edits_read
edits_end all front room least said = said ∙ ap Some (append-nil front)

-- words are left, and no room for them
pub edits_full : (all : Option (List (ℕ × ℕ))) (front : List (ℕ × ℕ)) (room least : ℕ)
    (word : List ℕ) (words at : List (List ℕ)) → room ≡ 0 → at ≡ word ∷ words
    → all ≡ onto front (edits_read room least at) → all ≡ None
unfolding edits_read
edits_full all front room least word words at none cut said = rw (none, cut) at said

pub one_more : (pairs : List (ℕ × ℕ)) (i : ℕ) (edit : ℕ × ℕ) → i < length pairs
    → take (i + 1) (slice_set pairs i edit) ≡ take i pairs ++ edit ∷ []
one_more pairs i edit lt = take-set_at pairs i (i + 1) edit refl lt

-- all words were read: they are edits
pub all_read : (words : List (List ℕ)) (edits : List (ℕ × ℕ)) → 0 < length edits
    → edits_read 8 0 words ≡ Some edits → AreEdits edits
all_read words edits some e =
    let t = edits_take 8 0 words edits e in
    rises_are edits some t.few t.rise
