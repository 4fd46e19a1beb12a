-- Two scripts compare in one way, which is known from what stands at the places of their low parts.
use Rattle.std.proofs.Common.{◌≡◌, ℕ, zero, suc, ◌+◌, ◌<◌, List, [], ◌∷◌, ◌++◌, length, map, Option, Some, All, IsSome, refl, sym, ap, ap₂, ◌∙◌, subst, arith}
use Rattle.std.specs.Prelude.{slice_get}
use Rattle.std.specs.Option.{option_map}
use Rattle.levels.specs.declared.level.Level.{Level}
use Rattle.levels.specs.declared.level.Partition.{Partition}
use Rattle.levels.specs.declared.rows.LevelRow.{LevelRow}
use Rattle.levels.specs.Rosters.{RosterView, level_at}
use Rattle.untrusted_store.specs.declared.plan.PlanRow.{PlanRow}
use Rattle.events.specs.declared.event.Event.{Event}
use Rattle.events.specs.ScriptView.{ScriptView}
use Rattle.machine.specs.Low.{low}
use Rattle.two_worlds.specs.declared.places.LowItem.{LowItem}
use Rattle.two_worlds.specs.declared.comparing.Comparison.{Comparison}
use Rattle.two_worlds.specs.declared.comparing.Comparison.TheVariants.{Alike, Apart}
use Rattle.two_worlds.specs.LowParts.{LowEntry, RowEntry, EventEntry, entries, low_items, entry_at}
use Rattle.two_worlds.specs.Comparing.{DifferFirst, DifferAt, Compares}
use Rattle.two_worlds.proofs.Lists.{differ_once, differ_unwrapped, same_somes}
use Rattle.two_worlds.proofs.LowPlaces.{places_hold}

-- ---- one way

same_entries : (level : Level) (a b : ScriptView) → low level a ≡ low level b → entries level a ≡ entries level b
same_entries level a b same = ap (λ (s : ScriptView). map RowEntry s.rows ++ map EventEntry s.events) same

alike_or_apart : (level : Level) (a b : ScriptView) (place : ℕ) → low level a ≡ low level b
    → Compares level a b (Apart place) → ⊥
alike_or_apart level a b zero same apart = apart (ap (λ (s : ScriptView). s.roster) same)
alike_or_apart level a b (suc place) same apart =
    apart.first.there (ap (λ es. slice_get es place) (same_entries level a b same))

one_place : (level : Level) (a b : ScriptView) (i j : ℕ) → Compares level a b (Apart i)
    → Compares level a b (Apart j) → i ≡ j
one_place level a b zero zero p q = refl
one_place level a b zero (suc j) p q = absurd (p q.roster)
one_place level a b (suc i) zero p q = absurd (q p.roster)
one_place level a b (suc i) (suc j) p q =
    ap suc (differ_once i j (entries level a) (entries level b) p.first q.first)

pub one_way : (level : Level) (a b : ScriptView) (x y : Comparison) → Compares level a b x → Compares level a b y
    → x ≡ y
one_way level a b Alike Alike p q = refl
one_way level a b Alike (Apart j) p q = absurd (alike_or_apart level a b j p q)
one_way level a b (Apart i) Alike p q = absurd (alike_or_apart level a b i q p)
one_way level a b (Apart i) (Apart j) p q = ap Apart (one_place level a b i j p q)

-- ---- rows and events come out of the list of entries

same_events : (es fs : List Event) → map EventEntry es ≡ map EventEntry fs → es ≡ fs
same_events [] [] h = refl
same_events [] (f ∷ fs) h = cc
same_events (e ∷ es) [] h = cc
same_events (e ∷ es) (f ∷ fs) h =
    let rest : map EventEntry es ≡ map EventEntry fs = cc in
    let tail : es ≡ fs = same_events es fs rest in
    cc

no_row : (r : PlanRow) (es : List Event) (fs : List LowEntry) → map EventEntry es ≡ RowEntry r ∷ fs → ⊥
no_row r [] fs h = cc
no_row r (e ∷ es) fs h = cc

same_parts : (ps qs : List PlanRow) (es fs : List Event)
    → map RowEntry ps ++ map EventEntry es ≡ map RowEntry qs ++ map EventEntry fs → (ps ≡ qs) × (es ≡ fs)
same_parts [] [] es fs h = (refl, same_events es fs h)
same_parts [] (q ∷ qs) es fs h = absurd (no_row q es (map RowEntry qs ++ map EventEntry fs) h)
same_parts (p ∷ ps) [] es fs h = absurd (no_row p fs (map RowEntry ps ++ map EventEntry es) (sym h))
same_parts (p ∷ ps) (q ∷ qs) es fs h =
    let rest : map RowEntry ps ++ map EventEntry es ≡ map RowEntry qs ++ map EventEntry fs = cc in
    let tail = same_parts ps qs es fs rest in
    let rows : ps ≡ qs = tail.0 in
    let head : p ∷ ps ≡ q ∷ qs = cc in
    (head, tail.1)

-- a script of its three parts
abbrev with_parts : RosterView → List PlanRow → List Event → ScriptView
with_parts roster rows events = record { roster = roster; rows = rows; events = events }

same_view : (a b : ScriptView) → a.roster ≡ b.roster → a.rows ≡ b.rows → a.events ≡ b.events → a ≡ b
same_view a b roster rows events =
    ap (λ (r : RosterView). with_parts r a.rows a.events) roster
    ∙ ap₂ (λ (ps : List PlanRow) (es : List Event). with_parts b.roster ps es) rows events

alike : (level : Level) (a b : ScriptView) → a.roster ≡ b.roster → entries level a ≡ entries level b
    → low level a ≡ low level b
alike level a b roster same =
    let parts = same_parts (low level a).rows (low level b).rows (low level a).events (low level b).events same in
    same_view (low level a) (low level b) roster parts.0 parts.1

-- ---- what stands at the places tells

wrapped : (level : Level) (script : ScriptView) (items : List LowItem) → items ≡ low_items level script
    → map (entry_at script) items ≡ map Some (entries level script)
wrapped level script items is = ap (map (entry_at script)) is ∙ places_hold level script

pub compares_alike : (level : Level) (a b : ScriptView) (first second : List LowItem) (found : Comparison)
    → a.roster ≡ b.roster → first ≡ low_items level a → second ≡ low_items level b
    → map (entry_at a) first ≡ map (entry_at b) second → found ≡ Alike → Compares level a b found
compares_alike level a b first second found roster is_first is_second same is =
    subst (Compares level a b) (sym is)
    (alike level a b roster (same_somes (entries level a) (entries level b)
    (sym (wrapped level a first is_first) ∙ same ∙ wrapped level b second is_second)))

pub compares_apart : (level : Level) (a b : ScriptView) (first second : List LowItem) (place : ℕ)
    (found : Comparison) → a.roster ≡ b.roster → first ≡ low_items level a → second ≡ low_items level b
    → DifferFirst place (map (entry_at a) first) (map (entry_at b) second) → found ≡ Apart (place + 1)
    → Compares level a b found
compares_apart level a b first second place found roster is_first is_second differ is =
    let one_more : place + 1 ≡ suc place = omega arith in
    let at : DifferAt level a b place = record {
      roster = roster;
      first =
          differ_unwrapped place (entries level a) (entries level b)
          (rw (← wrapped level a first is_first, ← wrapped level b second is_second) differ);
    } in
    subst (Compares level a b) (sym (is ∙ ap Apart one_more)) at

-- ---- what a low part's places are

cons_each : (f : LowItem → Option LowEntry) (x : LowItem) (items : List LowItem) → IsSome (f x)
    → All (λ item. IsSome (f item)) items → All (λ item. IsSome (f item)) (x ∷ items)
cons_each f x items here rest zero d lt = here
cons_each f x items here rest (suc k) d lt = rest k d (omega (arith, lt))

some_each : (f : LowItem → Option LowEntry) (items : List LowItem) (es : List LowEntry)
    → map f items ≡ map Some es → All (λ item. IsSome (f item)) items
some_each f [] es h = λ k d lt. absurd (omega (arith, lt))
some_each f (x ∷ items) [] h = cc
some_each f (x ∷ items) (e ∷ es) h =
    let here : f x ≡ Some e = cc in
    let rest : map f items ≡ map Some es = cc in
    cons_each f x items (rw here refl) (some_each f items es rest)

-- something stands at each of them
pub all_hold : (level : Level) (script : ScriptView) (items : List LowItem) → items ≡ low_items level script
    → All (λ item. IsSome (entry_at script item)) items
all_hold level script items is =
    some_each (entry_at script) items (entries level script) (wrapped level script items is)

level_in : (rows : List LevelRow) (n : ℕ) → n < length rows
    → (own : Level) × (option_map (λ (row : LevelRow). row.level) (slice_get rows n) ≡ Some own)
level_in [] n lt = absurd (omega (arith, lt))
level_in (r ∷ rows) zero lt = (r.level, refl)
level_in (r ∷ rows) (suc n) lt = level_in rows n (omega (arith, lt))

-- a level that a roster has is there
pub level_there : (roster : RosterView) (level : Partition) → level.0 < length roster.levels
    → (own : Level) × (level_at roster (Some level) ≡ Some own)
level_there roster level lt = level_in roster.levels level.0 lt
