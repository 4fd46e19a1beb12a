-- What stands at the places of a low part.
use Rattle.std.proofs.Common.{◌≡◌, ℕ, zero, suc, ◌+◌, ◌≤◌, List, [], ◌∷◌, ◌++◌, length, map, Bool, true, false, Option, Some, refl, sym, ap, ap₂, ◌∙◌, inl, inr, append_assoc, append-nil, length-append, count_by, arith}
use Rattle.std.specs.Prelude.{filter, slice_get}
use Rattle.std.specs.List.{range_with_len}
use Rattle.std.specs.Option.{option_map}
use Rattle.std.proofs.lemmas.Bool.{cases_Bool}
use Rattle.std.proofs.lemmas.Simd.{map-map}
use Rattle.std.proofs.lemmas.List.{map-append, length-map}
use Rattle.std.proofs.lemmas.List.FromFn.{length-range_with_len}
use Rattle.std.proofs.lemmas.List.Sums.{length-filter, count_by-le-length}
use Rattle.std.proofs.lemmas.List.Elements.{filter-append}
use Rattle.levels.specs.declared.level.Level.{Level}
use Rattle.events.specs.ScriptView.{ScriptView}
use Rattle.machine.specs.Low.{low}
use Rattle.two_worlds.specs.declared.places.LowItem.{LowItem}
use Rattle.two_worlds.specs.declared.places.LowItem.TheVariants as at
use Rattle.two_worlds.specs.LowParts.{LowEntry, RowEntry, EventEntry, entries, passes_at, places_where, is_low_row, is_low_event, low_items, entry_at}

-- the places below a number of those members of a list that pass a test
abbrev pub places_below : {A : Type 0} → (A → Bool) → List A → ℕ → List ℕ
places_below test xs n = filter (passes_at test xs) (range_with_len 0 n)

-- ---- one more place

range_more : (a n : ℕ) → range_with_len a (n + 1) ≡ range_with_len a n ++ (a + n) ∷ []
range_more a zero = let e : a ≡ a + 0 = omega arith in ap (λ m. m ∷ []) e
range_more a (suc n) =
    let more : suc n + 1 ≡ suc (n + 1) = omega arith in
    let last : (a + 1) + n ≡ a + suc n = omega arith in
    ap (range_with_len a) more ∙ ap (λ ms. a ∷ ms) (range_more (a + 1) n)
    ∙ ap (λ m. a ∷ range_with_len (a + 1) n ++ m ∷ []) last

below_more : {A : Type 0} (test : A → Bool) (xs : List A) (n : ℕ)
    → places_below test xs (n + 1) ≡ places_below test xs n ++ filter (passes_at test xs) (n ∷ [])
below_more test xs n =
    let last : 0 + n ≡ n = omega arith in
    ap (filter (passes_at test xs)) (range_more 0 n ∙ ap (λ m. range_with_len 0 n ++ m ∷ []) last)
    ∙ filter-append (passes_at test xs) (range_with_len 0 n) (n ∷ [])

-- a member that passes adds its place
pub place_kept : {A : Type 0} (make : ℕ → LowItem) (test : A → Bool) (xs : List A) (n : ℕ) (x : A)
    (items : List LowItem) → slice_get xs n ≡ Some x → test x ≡ true
    → items ++ map make (places_below test xs (n + 1))
    ≡ items ++ map make (places_below test xs n) ++ make n ∷ []
place_kept make test xs n x items there passes =
    let one : filter (passes_at test xs) (n ∷ []) ≡ n ∷ [] = rw (there, passes) in
    ap (λ (ms : List ℕ). items ++ map make ms)
    (below_more test xs n ∙ ap (λ (ms : List ℕ). places_below test xs n ++ ms) one)
    ∙ ap (λ (ms : List LowItem). items ++ ms) (map-append make (places_below test xs n) (n ∷ []))
    ∙ sym (append_assoc items (map make (places_below test xs n)) (make n ∷ []))

-- one that doesn't adds nothing
pub place_left_out : {A : Type 0} (make : ℕ → LowItem) (test : A → Bool) (xs : List A) (n : ℕ) (x : A)
    (items : List LowItem) → slice_get xs n ≡ Some x → test x ≡ false
    → items ++ map make (places_below test xs (n + 1)) ≡ items ++ map make (places_below test xs n)
place_left_out make test xs n x items there fails =
    let none : filter (passes_at test xs) (n ∷ []) ≡ [] = rw (there, fails) in
    ap (λ (ms : List ℕ). items ++ map make ms)
    (below_more test xs n ∙ ap (λ (ms : List ℕ). places_below test xs n ++ ms) none
    ∙ append-nil (places_below test xs n))

-- ---- what stands at the places

held_from : {A : Type 0} (test : A → Bool) (xs rest : List A) (a : ℕ)
    → ((k : ℕ) → slice_get xs (a + k) ≡ slice_get rest k)
    → map (slice_get xs) (filter (passes_at test xs) (range_with_len a (length rest)))
    ≡ map Some (filter test rest)
held_from test xs [] a same = refl
held_from {A = A} test xs (x ∷ rest) a same =
    let first : a ≡ a + 0 = omega arith in
    let here : slice_get xs a ≡ Some x = ap (slice_get xs) first ∙ same zero in
    let next : (k : ℕ) → (a + 1) + k ≡ a + suc k = λ k. omega arith in
    let more = held_from test xs rest (a + 1) (λ k. ap (slice_get xs) (next k) ∙ same (suc k)) in
    elim (cases_Bool (test x)) [
      | inl passes ↦ rw (here, passes, here) (ap (λ (ms : List (Option A)). Some x ∷ ms) more)
      | inr fails ↦ rw (here, fails) more
    ]

held : {A B : Type 0} (f : A → B) (test : A → Bool) (xs : List A)
    → map (λ i. option_map f (slice_get xs i)) (places_where test xs) ≡ map Some (map f (filter test xs))
held {A = A} f test xs =
    let first : (k : ℕ) → 0 + k ≡ k = λ k. omega arith in
    sym (map-map (option_map f) (slice_get xs) (places_where test xs))
    ∙ ap (map (option_map f)) (held_from test xs xs 0 (λ k. ap (slice_get xs) (first k)))
    ∙ map-map (option_map f) (λ x. Some x) (filter test xs)
    ∙ sym (map-map (λ x. Some x) f (filter test xs))

pub places_hold : (level : Level) (script : ScriptView)
    → map (entry_at script) (low_items level script) ≡ map Some (entries level script)
places_hold level script =
    let rows = places_where (is_low_row script.roster level) script.rows in
    let events = places_where (is_low_event script.roster level) script.events in
    map-append (entry_at script) (map at.Row rows) (map at.Event events)
    ∙ ap₂ (λ (es fs : List (Option LowEntry)). es ++ fs)
    (map-map (entry_at script) at.Row rows ∙ held RowEntry (is_low_row script.roster level) script.rows)
    (map-map (entry_at script) at.Event events ∙ held EventEntry (is_low_event script.roster level) script.events)
    ∙ sym (map-append Some (map RowEntry (low level script).rows) (map EventEntry (low level script).events))

-- ---- how many places there are

few_places : {A : Type 0} (make : ℕ → LowItem) (test : A → Bool) (xs : List A)
    → length (map make (places_where test xs)) ≤ length xs
few_places make test xs =
    let all = range_with_len 0 (length xs) in
    let kept = places_where test xs in
    let one : length (map make kept) ≡ length kept = length-map kept make in
    let two : length kept ≡ count_by (passes_at test xs) all = length-filter (passes_at test xs) all in
    let three : count_by (passes_at test xs) all ≤ length all = count_by-le-length (passes_at test xs) all in
    let four : length all ≡ length xs = length-range_with_len 0 (length xs) in
    omega arith

pub few_items : (level : Level) (script : ScriptView)
    → length (low_items level script) ≤ length script.rows + length script.events
few_items level script =
    let row_items = map at.Row (places_where (is_low_row script.roster level) script.rows) in
    let event_items = map at.Event (places_where (is_low_event script.roster level) script.events) in
    let one : length row_items ≤ length script.rows =
    few_places at.Row (is_low_row script.roster level) script.rows in
    let two : length event_items ≤ length script.events =
    few_places at.Event (is_low_event script.roster level) script.events in
    let both : length (row_items ++ event_items) ≡ length row_items + length event_items =
    length-append row_items event_items in
    omega arith
