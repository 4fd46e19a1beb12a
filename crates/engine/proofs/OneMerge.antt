-- The frames of a merge are those that were sent, in order, and no others.
use Rattle.std.proofs.Common.{◌≡◌, ℕ, zero, suc, ◌+◌, ◌^◌, ◌-◌, ◌<◌, ◌≤◌, List, [], ◌∷◌, ◌++◌, length, map, take, drop, get_or, true, false, Option, refl, sym, ap, ap₂, subst, ◌∙◌, inl, inr, arith, length-append}
use Rattle.std.specs.Prelude.{filter}
use Rattle.std.specs.List.{range_with_len, AllByRecursion}
use Rattle.std.proofs.lemmas.List.{take-append-drop, take_more, length-take}
use Rattle.std.proofs.lemmas.List.Elements.{filter-append}
use Rattle.levels.specs.declared.level.Party.{Party}
use Rattle.levels.specs.Rosters.{is_same_party}
use Rattle.events.specs.declared.event.Stream.{Stream}
use Rattle.machine.specs.declared.line.FrameRow.{FrameRow}
use Rattle.desk.specs.Wires.{WireView}
use Rattle.engine.specs.declared.merging.SentRow.{SentRow}
use Rattle.engine.specs.Slots.{slot_of, HasSlot}
use Rattle.engine.specs.States.{frames_by}
use Rattle.engine.specs.inside.Merging.{Key, key, key_of, is_same_stream, count_of, message_keys, keys_after, keys_of, sealed_at, AreFramesOf, counter_of, BeginsWith, IsMerged}
use Rattle.engine.proofs.Cases.{bool_cases, own_party}
use Rattle.engine.proofs.Merged.{keys_joined, keys_more}

-- ---- how many frames each unit has

abbrev keys_by : Party → List Key → ℕ
keys_by u keys = length (filter (λ k. is_same_party k.stream.from u) keys)

keys_by_joined : (u : Party) (xs ys : List Key) → keys_by u (xs ++ ys) ≡ keys_by u xs + keys_by u ys
keys_by_joined u xs ys =
    ap length (filter-append (λ (k : Key). is_same_party k.stream.from u) xs ys)
    ∙ length-append (filter (λ (k : Key). is_same_party k.stream.from u) xs)
    (filter (λ (k : Key). is_same_party k.stream.from u) ys)

frames_by_keys : (u : Party) (rows : List FrameRow)
    → length (frames_by u rows) ≡ keys_by u (map key_of rows)
frames_by_keys u [] = refl
frames_by_keys u (row ∷ rows) = elim (bool_cases (is_same_party row.stream.from u)) [
  | inl same ↦ rw same (ap suc (frames_by_keys u rows))
  | inr differ ↦ rw differ (frames_by_keys u rows)
]

all_own : (stream : Stream) (n i count : ℕ)
    → keys_by stream.from (map (key stream n) (range_with_len i count)) ≡ count
all_own stream n i zero = refl
all_own stream n i (suc count) =
    let own = own_party stream.from in
    rw own (ap suc (all_own stream n (i + 1) count))

-- what the first messages and one more have of its sender's
sent_so_far : (before after : List SentRow) (row : SentRow)
    → keys_by row.stream.from (keys_of before) + row.pieces
    ≤ keys_by row.stream.from (keys_of ((before ++ row ∷ []) ++ after))
sent_so_far before after row =
    let s = row.stream.from in
    let first = before ++ row ∷ [] in
    omega (
      arith,
      ap (keys_by s) (keys_joined [] first after),
      keys_by_joined s (keys_of first) (keys_after first after),
      ap (keys_by s) (keys_more before row),
      keys_by_joined s (keys_of before) (message_keys row.stream (count_of row.stream before) row.pieces),
      all_own row.stream (count_of row.stream before) 0 row.pieces,
    )

all_at : {A : Type 0} (P : A → Type 0) (xs : List A) (i : ℕ) (d : A) → i < length xs
    → AllByRecursion P xs → P (get_or xs i d)
all_at P [] i d lt all = absurd (omega (arith, lt))
all_at P (y ∷ ys) zero d lt all = all.0
all_at P (y ∷ ys) (suc i) d lt all = all_at P ys i d (omega (arith, lt)) all.1

split_at : {A : Type 0} (xs : List A) (i : ℕ) (d : A) → i < length xs
    → xs ≡ (take i xs ++ get_or xs i d ∷ []) ++ drop (i + 1) xs
split_at xs i d lt =
    sym (take-append-drop (i + 1) xs)
    ∙ ap (λ first. first ++ drop (i + 1) xs) (take_more xs i d lt)

-- the sender of a message has sealed its frames behind those that are taken
pub has_frames : (sent : List SentRow) (wires : List (Option WireView)) (i : ℕ) (d : SentRow)
    (taken counts : List ℕ) (frames rows : List FrameRow)
    → i < length sent → HasSlot (get_or sent i d).stream.from
    → IsMerged wires (take i sent) taken counts frames → AreFramesOf sent wires rows
    → get_or taken (slot_of (get_or sent i d).stream.from) 0 + (get_or sent i d).pieces
    ≤ length (sealed_at wires (slot_of (get_or sent i d).stream.from))
has_frames sent wires i d taken counts frames rows lt has merged are =
    let row = get_or sent i d in
    let s = row.stream.from in
    omega (
      arith,
      merged.cursors s has,
      frames_by_keys s frames,
      ap (keys_by s) merged.keys,
      sent_so_far (take i sent) (drop (i + 1) sent) row,
      ap (λ rs. keys_by s (keys_of rs)) (split_at sent i d lt),
      ap (keys_by s) are.keys,
      frames_by_keys s rows,
      ap length (all_at (λ r. sealed_at wires (slot_of r.stream.from) ≡ frames_by r.stream.from rows)
          sent i d lt are.sealed),
    )

-- fewer messages are counted than there are
pub has_number : (sent : List SentRow) (wires : List (Option WireView)) (i : ℕ) (stream : Stream)
    (taken counts : List ℕ) (frames : List FrameRow) → i < length sent → length sent < 2 ^ 32
    → HasSlot stream.from → HasSlot stream.to
    → IsMerged wires (take i sent) taken counts frames
    → get_or counts (counter_of stream) 0 < 2 ^ 32 - 1
has_number sent wires i stream taken counts frames lt few from to merged =
    omega (arith, merged.numbers stream from to, some (take i sent), length-take i sent)
  where
    some : (rows : List SentRow) → count_of stream rows ≤ length rows
    some [] = omega arith
    some (row ∷ rows) = elim (bool_cases (is_same_stream row.stream stream)) [
      | inl same ↦ rw same (omega (arith, some rows))
      | inr differ ↦ rw differ (omega (arith, some rows))
    ]

-- ---- one list of frames

same_row : (a b : FrameRow) → key_of a ≡ key_of b → a.bytes ≡ b.bytes → a ≡ b
same_row a b keys bytes =
    ap₂ (λ (k : Key) (bs : List ℕ). record {
      stream = k.stream;
      message = k.message;
      piece = k.piece;
      bytes = bs;
    }) keys bytes

-- frames of the same pieces, where each unit's are the first of its own
one_list : (P : Party → Type 0) (xs ys : List FrameRow) → map key_of xs ≡ map key_of ys
    → AllByRecursion (λ k. P k.stream.from) (map key_of xs)
    → ((u : Party) → P u → BeginsWith (frames_by u ys) (frames_by u xs)) → xs ≡ ys
one_list P [] [] keys all begins = refl
one_list P [] (y ∷ ys) keys all begins = cc
one_list P (x ∷ xs) [] keys all begins = cc
one_list P (x ∷ xs) (y ∷ ys) keys all begins =
    ap₂ (λ (z : FrameRow) (zs : List FrameRow). z ∷ zs) (same_row x y first bytes)
    (one_list P xs ys behind all.1 (λ u has. later u (begins u has)))
  where
    first : key_of x ≡ key_of y
    first = cc

    behind : map key_of xs ≡ map key_of ys
    behind = cc

    from_is : y.stream.from ≡ x.stream.from
    from_is = ap (λ (k : Key). k.stream.from) (sym first)

    bytes : x.bytes ≡ y.bytes
    bytes =
        let u = x.stream.from in
        let own : is_same_party x.stream.from u ≡ true = own_party u in
        let its : is_same_party y.stream.from u ≡ true = ap (λ v. is_same_party v u) from_is ∙ own in
        let begin = begins u all.0 in
        let ys_is : frames_by u (y ∷ ys) ≡ y.bytes ∷ frames_by u ys = rw its refl in
        let xs_is : frames_by u (x ∷ xs) ≡ x.bytes ∷ frames_by u xs = rw own refl in
        let is : y.bytes ∷ frames_by u ys ≡ (x.bytes ∷ frames_by u xs) ++ begin.rest =
        sym ys_is ∙ begin.is ∙ ap (λ fs. fs ++ begin.rest) xs_is in
        cc

    later : (u : Party) → BeginsWith (frames_by u (y ∷ ys)) (frames_by u (x ∷ xs))
        → BeginsWith (frames_by u ys) (frames_by u xs)
    later u begin = elim (bool_cases (is_same_party x.stream.from u)) [
      | inl own ↦
          let its : is_same_party y.stream.from u ≡ true = ap (λ v. is_same_party v u) from_is ∙ own in
          let ys_is : frames_by u (y ∷ ys) ≡ y.bytes ∷ frames_by u ys = rw its refl in
          let xs_is : frames_by u (x ∷ xs) ≡ x.bytes ∷ frames_by u xs = rw own refl in
          let is : y.bytes ∷ frames_by u ys ≡ x.bytes ∷ (frames_by u xs ++ begin.rest) =
          sym ys_is ∙ begin.is ∙ ap (λ fs. fs ++ begin.rest) xs_is in
          record { rest = begin.rest; is = cc }
      | inr other ↦
          let not_its : is_same_party y.stream.from u ≡ false =
          ap (λ v. is_same_party v u) from_is ∙ other in
          let ys_is : frames_by u (y ∷ ys) ≡ frames_by u ys = rw not_its refl in
          let xs_is : frames_by u (x ∷ xs) ≡ frames_by u xs = rw other refl in
          record {
            rest = begin.rest;
            is = sym ys_is ∙ begin.is ∙ ap (λ fs. fs ++ begin.rest) xs_is;
          }
    ]

-- what holds of each sender holds of each frame's
all_senders : (P : Party → Type 0) (before rows : List SentRow)
    → AllByRecursion (λ row. P row.stream.from) rows
    → AllByRecursion (λ k. P k.stream.from) (keys_after before rows)
all_senders P before [] all = tt
all_senders P before (row ∷ rows) all =
    joined (map (key row.stream (count_of row.stream before)) (range_with_len 0 row.pieces))
    (of 0 row.pieces) (all_senders P (before ++ row ∷ []) rows all.1)
  where
    of : (i count : ℕ)
        → AllByRecursion (λ k. P k.stream.from)
        (map (key row.stream (count_of row.stream before)) (range_with_len i count))
    of i zero = tt
    of i (suc count) = (all.0, of (i + 1) count)

    joined : (xs : List Key) → AllByRecursion (λ k. P k.stream.from) xs
        → AllByRecursion (λ k. P k.stream.from) (keys_after (before ++ row ∷ []) rows)
        → AllByRecursion (λ k. P k.stream.from) (xs ++ keys_after (before ++ row ∷ []) rows)
    joined [] first later = later
    joined (x ∷ xs) first later = (first.0, joined xs first.1 later)

both_all : {A : Type 0} (P Q : A → Type 0) (xs : List A) → AllByRecursion P xs → AllByRecursion Q xs
    → AllByRecursion (λ x. P x × Q x) xs
both_all P Q [] p q = tt
both_all P Q (x ∷ xs) p q = ((p.0, q.0), both_all P Q xs p.1 q.1)

pub merges_all : (sent : List SentRow) (wires : List (Option WireView)) (taken counts : List ℕ)
    (frames rows : List FrameRow) → IsMerged wires sent taken counts frames
    → AreFramesOf sent wires rows → frames ≡ rows
merges_all sent wires taken counts frames rows merged are =
    let P : Party → Type 0 =
    λ u. (sealed_at wires (slot_of u) ≡ frames_by u rows) × HasSlot u in
    one_list P frames rows (merged.keys ∙ sym are.keys)
    (subst (AllByRecursion (λ k. P k.stream.from)) (sym merged.keys)
    (all_senders P [] sent
    (both_all (λ row. sealed_at wires (slot_of row.stream.from) ≡ frames_by row.stream.from rows)
    (λ row. HasSlot row.stream.from) sent are.sealed merged.senders)))
    (λ u has. subst (λ all. BeginsWith all (frames_by u frames)) has.0 (merged.begins u has.1))
