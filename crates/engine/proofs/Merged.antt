-- A merge on its way: each message takes the next frames of its sender.
use Rattle.std.proofs.Common.{◌≡◌, ◌≢◌, ℕ, suc, ◌+◌, ◌*◌, ◌<◌, ◌≤◌, List, [], ◌∷◌, ◌++◌, length, map, take, drop, get_or, true, false, Option, refl, sym, ap, ap₂, subst, ◌∙◌, inl, inr, arith, append-nil, append_assoc, length-append, get_or-set_same, get_or-set_other}
use Rattle.std.proofs.Math.ListN.{set}
use Rattle.std.proofs.Math.Seq.{drop-append_seam}
use Rattle.std.specs.Prelude.{filter}
use Rattle.std.specs.List.{range_with_len}
use Rattle.std.proofs.lemmas.List.{map-append, take-append-drop, take_more, length-take, length-drop, length-set}
use Rattle.std.proofs.lemmas.List.Elements.{filter-append}
use Rattle.levels.specs.declared.level.Party.{Party}
use Rattle.levels.specs.declared.level.Party.TheVariants.{Host, Manager}
use Rattle.levels.specs.Rosters.{is_same_party}
use Rattle.events.specs.declared.event.Stream.{Stream}
use Rattle.machine.specs.declared.line.FrameRow.{FrameRow}
use Rattle.desk.specs.Wires.{WireView}
use Rattle.engine.specs.declared.merging.SentRow.{SentRow}
use Rattle.engine.specs.Slots.{slot_of, HasSlot}
use Rattle.engine.specs.States.{frames_by}
use Rattle.engine.specs.inside.Merging.{Key, key, key_of, is_same_stream, count_of, message_keys, keys_after, keys_of, sealed_at, counter_of, rows_of, BeginsWith, IsMerged}
use Rattle.engine.proofs.Cases.{bool_cases, own_party, same_party, two_parties, all_two}
use Rattle.engine.proofs.Stepping.{frames_joined}
use Rattle.engine.proofs.Lists.{all_and_last}

-- ---- slots and counters

slot_small : (u : Party) → HasSlot u → slot_of u < 512
slot_small (Host a) has = omega (arith, has)
slot_small (Manager p) has = omega (arith, has)

pub slot_apart : (u v : Party) → HasSlot u → HasSlot v → slot_of u ≡ slot_of v → u ≡ v
slot_apart (Host a) (Host b) has had same = ap Host same
slot_apart (Manager p) (Manager q) has had same =
    let number : p.0 ≡ q.0 = omega (arith, same) in
    ap (λ n. Manager (record { 0 = n })) number
slot_apart (Host a) (Manager q) has had same = absurd (omega (arith, has, same))
slot_apart (Manager p) (Host b) has had same = absurd (omega (arith, had, same))

two_digits : (a b c d : ℕ) → b < 512 → d < 512 → 512 * a + b ≡ 512 * c + d
    → (a ≡ c) × (b ≡ d)
two_digits a b c d lt lt' same = (omega arith, omega arith)

pub counter_small : (stream : Stream) → HasSlot stream.from → HasSlot stream.to
    → counter_of stream < 262144
counter_small stream from to =
    omega (arith, slot_small stream.from from, slot_small stream.to to)

counter_apart : (a b : Stream) → HasSlot a.from → HasSlot a.to → HasSlot b.from → HasSlot b.to
    → counter_of a ≡ counter_of b → a ≡ b
counter_apart a b from to from' to' same =
    let t = two_digits (slot_of a.from) (slot_of a.to) (slot_of b.from) (slot_of b.to)
    (slot_small a.to to) (slot_small b.to to') same in
    ap₂ (λ f t. record { from = f; to = t }) (slot_apart a.from b.from from from' t.0)
    (slot_apart a.to b.to to to' t.1)

-- ---- rows of one message

rows_more : (stream : Stream) (n i : ℕ) (frames : List (List ℕ)) (bytes : List ℕ)
    → rows_of stream n i (frames ++ bytes ∷ [])
    ≡ rows_of stream n i frames
    ++ record { stream = stream; message = n; piece = i + length frames; bytes = bytes } ∷ []
rows_more stream n i [] bytes =
    let same : i ≡ i + 0 = omega arith in
    ap (λ k. record { stream = stream; message = n; piece = k; bytes = bytes } ∷ []) same
rows_more stream n i (first ∷ frames) bytes =
    let row : FrameRow = record { stream = stream; message = n; piece = i; bytes = first } in
    let same : i + 1 + length frames ≡ i + suc (length frames) = omega arith in
    ap (λ rows. row ∷ rows) (rows_more stream n (i + 1) frames bytes
    ∙ ap (λ k. rows_of stream n (i + 1) frames
    ++ record { stream = stream; message = n; piece = k; bytes = bytes } ∷ []) same)

-- the next piece of a message
pub rows_next : (stream : Stream) (n i : ℕ) (frames : List (List ℕ)) → i < length frames
    → rows_of stream n 0 (take i frames)
    ++ record { stream = stream; message = n; piece = i; bytes = get_or frames i [] } ∷ []
    ≡ rows_of stream n 0 (take (i + 1) frames)
rows_next stream n i frames lt =
    let bytes = get_or frames i [] in
    let size : length (take i frames) ≡ i = omega (arith, length-take i frames, lt) in
    let place : i ≡ 0 + length (take i frames) = omega (arith, size) in
    ap (λ k. rows_of stream n 0 (take i frames)
    ++ record { stream = stream; message = n; piece = k; bytes = bytes } ∷ []) place
    ∙ sym (rows_more stream n 0 (take i frames) bytes)
    ∙ ap (rows_of stream n 0) (sym (take_more frames i [] lt))

rows_keys : (stream : Stream) (n i : ℕ) (frames : List (List ℕ))
    → map key_of (rows_of stream n i frames)
    ≡ map (key stream n) (range_with_len i (length frames))
rows_keys stream n i [] = refl
rows_keys stream n i (bytes ∷ frames) =
    ap (λ ks. key stream n i ∷ ks) (rows_keys stream n (i + 1) frames)

rows_own : (stream : Stream) (u : Party) (n i : ℕ) (frames : List (List ℕ))
    → is_same_party stream.from u ≡ true → frames_by u (rows_of stream n i frames) ≡ frames
rows_own stream u n i [] same = refl
rows_own stream u n i (bytes ∷ frames) same =
    rw same (ap (λ fs. bytes ∷ fs) (rows_own stream u n (i + 1) frames same))

rows_other : (stream : Stream) (u : Party) (n i : ℕ) (frames : List (List ℕ))
    → is_same_party stream.from u ≡ false → frames_by u (rows_of stream n i frames) ≡ []
rows_other stream u n i [] differ = refl
rows_other stream u n i (bytes ∷ frames) differ =
    rw differ (rows_other stream u n (i + 1) frames differ)

-- ---- keys and counts of one message more

pub keys_joined : (before xs ys : List SentRow)
    → keys_after before (xs ++ ys) ≡ keys_after before xs ++ keys_after (before ++ xs) ys
keys_joined before [] ys = ap (λ rows. keys_after rows ys) (sym (append-nil before))
keys_joined before (x ∷ xs) ys =
    let own = message_keys x.stream (count_of x.stream before) x.pieces in
    let first = before ++ x ∷ [] in
    ap (λ ks. own ++ ks) (keys_joined first xs ys
    ∙ ap (λ rows. keys_after first xs ++ keys_after rows ys) (append_assoc before (x ∷ []) xs))
    ∙ sym (append_assoc own (keys_after first xs) (keys_after (before ++ x ∷ xs) ys))

pub keys_more : (rows : List SentRow) (row : SentRow)
    → keys_of (rows ++ row ∷ [])
    ≡ keys_of rows ++ message_keys row.stream (count_of row.stream rows) row.pieces
keys_more rows row =
    keys_joined [] rows (row ∷ [])
    ∙ ap (λ ks. keys_of rows ++ ks)
    (append-nil (message_keys row.stream (count_of row.stream rows) row.pieces))

pub count_same : (stream : Stream) (rows : List SentRow) (row : SentRow)
    → is_same_stream row.stream stream ≡ true
    → count_of stream (rows ++ row ∷ []) ≡ count_of stream rows + 1
count_same stream rows row same =
    ap length (filter-append (λ (r : SentRow). is_same_stream r.stream stream) rows (row ∷ []))
    ∙ rw same (length-append
    (filter (λ (r : SentRow). is_same_stream r.stream stream) rows) (row ∷ []))

pub count_other : (stream : Stream) (rows : List SentRow) (row : SentRow)
    → is_same_stream row.stream stream ≡ false
    → count_of stream (rows ++ row ∷ []) ≡ count_of stream rows
count_other stream rows row differ =
    ap length (filter-append (λ (r : SentRow). is_same_stream r.stream stream) rows (row ∷ []))
    ∙ rw differ (ap length
    (append-nil (filter (λ (r : SentRow). is_same_stream r.stream stream) rows)))

pub own_stream : (stream : Stream) → is_same_stream stream stream ≡ true
own_stream stream =
    let from = own_party stream.from in
    let to = own_party stream.to in
    rw (from, to) refl

pub same_stream : (a b : Stream) → is_same_stream a b ≡ true → a ≡ b
same_stream a b same =
    let t = all_two (is_same_party a.from b.from) (is_same_party a.to b.to) same in
    ap₂ (λ f t. record { from = f; to = t }) (same_party a.from b.from t.0)
    (same_party a.to b.to t.1)

two_streams : (a b : Stream) → is_same_stream a b ≡ false → a ≢ b
two_streams a b differ same =
    let is : is_same_stream a b ≡ true = ap (is_same_stream a) (sym same) ∙ own_stream a in
    cc

-- ---- one message more

-- what stands behind the first frames is cut once more
begins_more : (own part : List (List ℕ)) (n : ℕ) → BeginsWith own part
    → BeginsWith own (part ++ take n (drop (length part) own))
begins_more own part n begins = record {
  rest = drop n begins.rest;
  is = begins.is ∙ ap (λ rest. part ++ rest) (sym (take-append-drop n begins.rest))
      ∙ sym (append_assoc part (take n begins.rest) (drop n begins.rest))
      ∙ ap (λ rest. (part ++ take n rest) ++ drop n begins.rest) (sym behind);
}
  where
    behind : drop (length part) own ≡ begins.rest
    behind = ap (drop (length part)) begins.is ∙ drop-append_seam part begins.rest

-- the frames of the sender of a new message
own_joined : (stream : Stream) (u : Party) (n : ℕ) (frames : List FrameRow) (more : List (List ℕ))
    → is_same_party stream.from u ≡ true
    → frames_by u (frames ++ rows_of stream n 0 more) ≡ frames_by u frames ++ more
own_joined stream u n frames more same =
    frames_joined u frames (rows_of stream n 0 more)
    ∙ ap (λ fs. frames_by u frames ++ fs) (rows_own stream u n 0 more same)

-- those of another stay
other_stays : (stream : Stream) (u : Party) (n : ℕ) (frames : List FrameRow)
    (more : List (List ℕ)) → is_same_party stream.from u ≡ false
    → frames_by u (frames ++ rows_of stream n 0 more) ≡ frames_by u frames
other_stays stream u n frames more differ =
    frames_joined u frames (rows_of stream n 0 more)
    ∙ ap (λ fs. frames_by u frames ++ fs) (rows_other stream u n 0 more differ)
    ∙ append-nil (frames_by u frames)

cursors_next : (stream : Stream) (taken : List ℕ) (n p : ℕ) (frames : List FrameRow)
    (more : List (List ℕ)) → length taken ≡ 512 → HasSlot stream.from → length more ≡ p
    → ((u : Party) → HasSlot u → get_or taken (slot_of u) 0 ≡ length (frames_by u frames))
    → (u : Party) → HasSlot u
    → get_or (set taken (slot_of stream.from) (get_or taken (slot_of stream.from) 0 + p))
    (slot_of u) 0
    ≡ length (frames_by u (frames ++ rows_of stream n 0 more))
cursors_next stream taken n p frames more size from many was u has =
    elim (bool_cases (is_same_party stream.from u)) [
      | inl same ↦
          let u_is : u ≡ stream.from = sym (same_party stream.from u same) in
          let lt : slot_of stream.from < length taken =
          omega (arith, slot_small stream.from from, size) in
          ap (λ v. get_or (set taken (slot_of stream.from) (get_or taken (slot_of stream.from) 0 + p))
          (slot_of v) 0) u_is
          ∙ get_or-set_same taken (slot_of stream.from) (get_or taken (slot_of stream.from) 0 + p) 0 lt
          ∙ ap (λ v. get_or taken (slot_of v) 0 + p) (sym u_is)
          ∙ ap (λ k. k + p) (was u has)
          ∙ ap (λ k. length (frames_by u frames) + k) (sym many)
          ∙ sym (ap length (own_joined stream u n frames more same)
          ∙ length-append (frames_by u frames) more)
      | inr differ ↦
          let apart : slot_of u ≢ slot_of stream.from =
          λ e. two_parties stream.from u differ (slot_apart stream.from u from has (sym e)) in
          get_or-set_other taken (slot_of stream.from) (slot_of u)
          (get_or taken (slot_of stream.from) 0 + p) 0 apart
          ∙ was u has ∙ ap length (sym (other_stays stream u n frames more differ))
    ]

begins_next : (wires : List (Option WireView)) (stream : Stream) (n p start : ℕ)
    (frames : List FrameRow) (own : List (List ℕ))
    → own ≡ sealed_at wires (slot_of stream.from)
    → start ≡ length (frames_by stream.from frames)
    → ((u : Party) → HasSlot u → BeginsWith (sealed_at wires (slot_of u)) (frames_by u frames))
    → (u : Party) → HasSlot u
    → BeginsWith (sealed_at wires (slot_of u))
    (frames_by u (frames ++ rows_of stream n 0 (take p (drop start own))))
begins_next wires stream n p start frames own is at was u has =
    elim (bool_cases (is_same_party stream.from u)) [
      | inl same ↦
          let from_is : stream.from ≡ u = same_party stream.from u same in
          let own_is : own ≡ sealed_at wires (slot_of u) =
          is ∙ ap (λ v. sealed_at wires (slot_of v)) from_is in
          let start_is : start ≡ length (frames_by u frames) =
          at ∙ ap (λ v. length (frames_by v frames)) from_is in
          let more_is : take p (drop start own)
          ≡ take p (drop (length (frames_by u frames)) (sealed_at wires (slot_of u))) =
          ap₂ (λ k fs. take p (drop k fs)) start_is own_is in
          subst (BeginsWith (sealed_at wires (slot_of u)))
          (sym (own_joined stream u n frames (take p (drop start own)) same
          ∙ ap (λ fs. frames_by u frames ++ fs) more_is))
          (begins_more (sealed_at wires (slot_of u)) (frames_by u frames) p (was u has))
      | inr differ ↦
          subst (BeginsWith (sealed_at wires (slot_of u)))
          (sym (other_stays stream u n frames (take p (drop start own)) differ)) (was u has)
    ]

numbers_next : (row : SentRow) (before : List SentRow) (counts : List ℕ)
    → length counts ≡ 262144 → HasSlot row.stream.from → HasSlot row.stream.to
    → ((stream : Stream) → HasSlot stream.from → HasSlot stream.to
    → get_or counts (counter_of stream) 0 ≡ count_of stream before)
    → (stream : Stream) → HasSlot stream.from → HasSlot stream.to
    → get_or (set counts (counter_of row.stream) (get_or counts (counter_of row.stream) 0 + 1))
    (counter_of stream) 0
    ≡ count_of stream (before ++ row ∷ [])
numbers_next row before counts size from to was stream from' to' =
    elim (bool_cases (is_same_stream row.stream stream)) [
      | inl same ↦
          let is : stream ≡ row.stream = sym (same_stream row.stream stream same) in
          let lt : counter_of row.stream < length counts =
          omega (arith, counter_small row.stream from to, size) in
          ap (λ t. get_or (set counts (counter_of row.stream)
          (get_or counts (counter_of row.stream) 0 + 1)) (counter_of t) 0) is
          ∙ get_or-set_same counts (counter_of row.stream)
          (get_or counts (counter_of row.stream) 0 + 1) 0 lt
          ∙ ap (λ t. get_or counts (counter_of t) 0 + 1) (sym is)
          ∙ ap (λ k. k + 1) (was stream from' to')
          ∙ sym (count_same stream before row same)
      | inr differ ↦
          let apart : counter_of stream ≢ counter_of row.stream =
          λ e. two_streams row.stream stream differ
          (counter_apart row.stream stream from to from' to' (sym e)) in
          get_or-set_other counts (counter_of row.stream) (counter_of stream)
          (get_or counts (counter_of row.stream) 0 + 1) 0 apart
          ∙ was stream from' to' ∙ sym (count_other stream before row differ)
    ]

-- so many frames are taken of those that are left
taken_all : (start p : ℕ) (own : List (List ℕ)) → start + p ≤ length own
    → length (take p (drop start own)) ≡ p
taken_all start p own le =
    length-take p (drop start own) ∙ omega (arith, length-drop start own)

merges_one : (wires : List (Option WireView)) (before : List SentRow) (row : SentRow)
    (taken counts : List ℕ) (own : List (List ℕ)) (frames : List FrameRow)
    → IsMerged wires before taken counts frames
    → HasSlot row.stream.from → HasSlot row.stream.to
    → own ≡ sealed_at wires (slot_of row.stream.from)
    → get_or taken (slot_of row.stream.from) 0 + row.pieces ≤ length own
    → IsMerged wires (before ++ row ∷ [])
    (set taken (slot_of row.stream.from) (get_or taken (slot_of row.stream.from) 0 + row.pieces))
    (set counts (counter_of row.stream) (get_or counts (counter_of row.stream) 0 + 1))
    (frames ++ rows_of row.stream (get_or counts (counter_of row.stream) 0) 0
    (take row.pieces (drop (get_or taken (slot_of row.stream.from) 0) own)))
merges_one wires before row taken counts own frames was from to is room =
    let start = get_or taken (slot_of row.stream.from) 0 in
    let n = get_or counts (counter_of row.stream) 0 in
    let more = take row.pieces (drop start own) in
    let many = taken_all start row.pieces own room in
    record {
      slots = length-set taken (slot_of row.stream.from) (start + row.pieces) ∙ was.slots;
      streams = length-set counts (counter_of row.stream) (n + 1) ∙ was.streams;
      keys = map-append key_of frames (rows_of row.stream n 0 more)
          ∙ ap₂ (λ (a b : List Key). a ++ b) was.keys
          (rows_keys row.stream n 0 more
          ∙ ap₂ (message_keys row.stream) (was.numbers row.stream from to) many)
          ∙ sym (keys_more before row);
      senders = all_and_last (λ r. HasSlot r.stream.from) before row was.senders from;
      cursors = cursors_next row.stream taken n row.pieces frames more was.slots from many was.cursors;
      begins = begins_next wires row.stream n row.pieces start frames own is
          (was.cursors row.stream.from from) was.begins;
      numbers = numbers_next row before counts was.streams from to was.numbers;
    }

-- the same, with what the code made of it
pub merges_next : (sent : List SentRow) (wires : List (Option WireView)) (i : ℕ) (d : SentRow)
    (taken counts taken' counts' : List ℕ) (own : List (List ℕ)) (counter : ℕ)
    (frames frames' : List FrameRow) → i < length sent
    → IsMerged wires (take i sent) taken counts frames
    → HasSlot (get_or sent i d).stream.from → HasSlot (get_or sent i d).stream.to
    → own ≡ sealed_at wires (slot_of (get_or sent i d).stream.from)
    → counter ≡ counter_of (get_or sent i d).stream
    → get_or taken (slot_of (get_or sent i d).stream.from) 0 + (get_or sent i d).pieces ≤ length own
    → taken' ≡ set taken (slot_of (get_or sent i d).stream.from)
    (get_or taken (slot_of (get_or sent i d).stream.from) 0 + (get_or sent i d).pieces)
    → counts' ≡ set counts counter (get_or counts counter 0 + 1)
    → frames' ≡ frames ++ rows_of (get_or sent i d).stream (get_or counts counter 0) 0
    (take (get_or sent i d).pieces
    (drop (get_or taken (slot_of (get_or sent i d).stream.from) 0) own))
    → IsMerged wires (take (i + 1) sent) taken' counts' frames'
merges_next sent wires i d taken counts taken' counts' own counter frames frames' lt was from to is
    at room is_taken is_counts is_frames =
    let row = get_or sent i d in
    let more : ℕ → List FrameRow =
    λ c. frames ++ rows_of row.stream (get_or counts c 0) 0
    (take row.pieces (drop (get_or taken (slot_of row.stream.from) 0) own)) in
    subst (λ before. IsMerged wires before taken' counts' frames') (sym (take_more sent i d lt))
    (subst (λ ts. IsMerged wires (take i sent ++ row ∷ []) ts counts' frames') (sym is_taken)
    (subst (λ cs. IsMerged wires (take i sent ++ row ∷ []) (set taken (slot_of row.stream.from)
    (get_or taken (slot_of row.stream.from) 0 + row.pieces)) cs frames')
    (sym (is_counts ∙ ap (λ c. set counts c (get_or counts c 0 + 1)) at))
    (subst (λ fs. IsMerged wires (take i sent ++ row ∷ []) (set taken (slot_of row.stream.from)
    (get_or taken (slot_of row.stream.from) 0 + row.pieces))
    (set counts (counter_of row.stream) (get_or counts (counter_of row.stream) 0 + 1)) fs)
    (sym (is_frames ∙ ap more at))
    (merges_one wires (take i sent) row taken counts own frames was from to is room))))

-- before the first message
pub merges_none : (wires : List (Option WireView)) (taken counts : List ℕ)
    → length taken ≡ 512 → length counts ≡ 262144
    → ((k : ℕ) → get_or taken k 0 ≡ 0) → ((k : ℕ) → get_or counts k 0 ≡ 0)
    → IsMerged wires [] taken counts []
merges_none wires taken counts slots streams no_taken no_counts = record {
  slots = slots;
  streams = streams;
  keys = refl;
  senders = tt;
  cursors = λ u has. no_taken (slot_of u);
  begins = λ u has. record { rest = sealed_at wires (slot_of u); is = refl };
  numbers = λ stream from to. no_counts (counter_of stream);
}
