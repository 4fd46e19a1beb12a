-- The order of lines that stand where they may.
use Rattle.std.proofs.Common.{◌≡◌, ℕ, Bool, true, false, ◌||◌, List, [], ◌∷◌, ◌++◌, length, map, Option, Some, None, refl, sym, ap, subst, ◌∙◌, append_assoc}
use Rattle.std.specs.Prelude.{is_some, filter_map, slice_get}
use Rattle.std.specs.List.{zip}
use Rattle.std.proofs.lemmas.Bool.{eqb-true}
use Rattle.std.proofs.lemmas.List.{append-nil, map_push}
use Rattle.seal_core.specs.declared.KeyPair.{KeyPair}
use Rattle.levels.specs.declared.level.Sealing.{Sealing}
use Rattle.levels.specs.declared.level.Sealing.TheVariants.{Clear, Des}
use Rattle.levels.specs.declared.level.Partition.{Partition}
use Rattle.levels.specs.declared.level.Level.{Level}
use Rattle.levels.specs.declared.rows.LevelRow.{LevelRow}
use Rattle.levels.specs.declared.rows.HostRow.{HostRow}
use Rattle.levels.specs.Rosters.{RosterView, level_named, with_level, with_keys, with_guard}
use Rattle.levels.specs.Keys.{listed}
use Rattle.untrusted_store.specs.declared.plan.PlanRow.{PlanRow}
use Rattle.events.specs.declared.event.Event.{Event}
use Rattle.script.specs.Lines.{EventWords, StoreWords, Line}
use Rattle.script.specs.Lines as line
use Rattle.script.specs.Naming.{event_named, row_named}
use Rattle.script.specs.Facts.{Kind, version_line, seal_line, level_line, key_line, guard_line, host_line, store_line, begin_line, event_line, end_line, kind_of, as_host, as_row, as_event, Facts, facts}
use Rattle.script.specs.Reasons.{may_follow, has_turn, has_levels, has_parties, has_names}
use Rattle.script.specs.Text.{lines_of_sealing, line_of_level, line_of_key, line_of_guard, lines_of_keys, line_of_host, line_of_row, line_of_event}
use Rattle.script.specs.inside.Stages.{with_some, host_added, after}
use Rattle.script.proofs.Naming.{some_of, named_at, row_at_name, row_back, event_back}
use Rattle.script.proofs.Pushes.{NoHosts, NoRows, NoEvents, made, push_version, push_seal, push_level, push_key, push_guard, push_host, push_store, push_begin, push_event, push_end}

-- ---- the lines of a script up to one of a kind

abbrev pub start : RosterView → List Line
start roster =
    (line.Version ∷ []) ++ lines_of_sealing roster.sealing ++ map line_of_level roster.levels

abbrev pub keyed : RosterView → List Line
keyed roster = start roster ++ lines_of_keys roster

abbrev pub network : RosterView → List Line
network roster = keyed roster ++ map (line_of_host roster) roster.hosts

abbrev pub planned : RosterView → List PlanRow → List Line
planned roster rows = network roster ++ map (line_of_row roster) rows

abbrev pub begun : RosterView → List PlanRow → List Line
begun roster rows = planned roster rows ++ (line.Begin ∷ [])

abbrev pub happened : RosterView → List PlanRow → List Event → List Line
happened roster rows events = begun roster rows ++ map (line_of_event roster) events

abbrev pub shape : Option Kind → RosterView → List PlanRow → List Event → List Line
shape None roster rows events = []
shape (Some version_line) roster rows events = line.Version ∷ []
shape (Some seal_line) roster rows events = line.Version ∷ line.Seal ∷ []
shape (Some level_line) roster rows events = start roster
shape (Some key_line) roster rows events = keyed roster
shape (Some guard_line) roster rows events = keyed roster
shape (Some host_line) roster rows events = network roster
shape (Some store_line) roster rows events = planned roster rows
shape (Some begin_line) roster rows events = begun roster rows
shape (Some event_line) roster rows events = happened roster rows events
shape (Some end_line) roster rows events = happened roster rows events ++ (line.End ∷ [])

-- no hosts, rows of a plan and events
pub record IsQuiet (roster : RosterView) (rows : List PlanRow) (events : List Event) : Type 0 where
  pub no_hosts : roster.hosts ≡ []
  pub no_rows : rows ≡ []
  pub no_events : events ≡ []

-- and no keys
pub record IsUnset (roster : RosterView) (rows : List PlanRow) (events : List Event) : Type 0 where
  pub keys : roster.keys ≡ []
  pub guard : roster.guard ≡ None
  pub quiet : IsQuiet roster rows events

-- and no levels
pub record IsEmpty (sealing : Sealing) (roster : RosterView) (rows : List PlanRow)
    (events : List Event) : Type 0 where
  pub sealed : roster.sealing ≡ sealing
  pub levels : roster.levels ≡ []
  pub unset : IsUnset roster rows events

-- what has not come before a line of a kind
abbrev pub Bare : Option Kind → RosterView → List PlanRow → List Event → Type 0
Bare None roster rows events = IsEmpty Clear roster rows events
Bare (Some version_line) roster rows events = IsEmpty Clear roster rows events
Bare (Some seal_line) roster rows events = IsEmpty Des roster rows events
Bare (Some level_line) roster rows events = IsUnset roster rows events
Bare (Some key_line) roster rows events = (roster.guard ≡ None) × IsQuiet roster rows events
Bare (Some guard_line) roster rows events = IsQuiet roster rows events
Bare (Some host_line) roster rows events = (rows ≡ []) × (events ≡ [])
Bare (Some store_line) roster rows events = events ≡ []
Bare (Some begin_line) roster rows events = events ≡ []
Bare (Some event_line) roster rows events = Unit {0}
Bare (Some end_line) roster rows events = Unit {0}

-- whether a kind is the last
abbrev pub closes : Option Kind → Bool
closes (Some end_line) = true
closes _ = false

pub record InOrder (lines : List Line) (said : Facts) : Type 0 where
  pub shaped : lines ≡ shape said.last said.roster said.rows said.events
  pub bare : Bare said.last said.roster said.rows said.events
  pub ended : said.ended ≡ closes said.last

-- ---- parts that have no lines

zip_none : {X Y : Type 0} (xs : List X) → zip {K = X} {X = Y} xs [] ≡ []
zip_none [] = refl
zip_none (a ∷ xs) = refl

pub no_pairs : (levels : List LevelRow) → zip {K = LevelRow} {X = KeyPair} levels [] ≡ []
no_pairs levels = zip_none levels

start_keyed : (roster : RosterView) → roster.keys ≡ [] → roster.guard ≡ None
    → start roster ≡ keyed roster
start_keyed roster keys guard =
    let none : lines_of_keys roster ≡ [] = rw (keys, guard, no_pairs roster.levels) refl in
    sym (ap (λ (ls : List Line). start roster ++ ls) none ∙ append-nil (start roster))

keyed_network : (roster : RosterView) → roster.hosts ≡ [] → keyed roster ≡ network roster
keyed_network roster hosts =
    sym (ap (λ (hs : List HostRow). keyed roster ++ map (line_of_host roster) hs) hosts
    ∙ append-nil (keyed roster))

network_planned : (roster : RosterView) (rows : List PlanRow) → rows ≡ []
    → network roster ≡ planned roster rows
network_planned roster rows none =
    sym (ap (λ (rs : List PlanRow). network roster ++ map (line_of_row roster) rs) none
    ∙ append-nil (network roster))

begun_happened : (roster : RosterView) (rows : List PlanRow) (events : List Event) → events ≡ []
    → begun roster rows ≡ happened roster rows events
begun_happened roster rows events none =
    sym (ap (λ (es : List Event). begun roster rows ++ map (line_of_event roster) es) none
    ∙ append-nil (begun roster rows))

-- ---- one line more in a part

one_pushed : {X : Type 0} (front : List Line) (f : X → Line) (xs : List X) (x : X)
    → (front ++ map f xs) ++ f x ∷ [] ≡ front ++ map f (xs ++ x ∷ [])
one_pushed front f xs x = append_assoc front (map f xs) (f x ∷ [])
    ∙ ap (λ (r : List Line). front ++ r) (sym (map_push f xs x))

zip_push : {X Y : Type 0} (xs : List X) (ys : List Y) (x : X) (y : Y)
    → slice_get xs (length ys) ≡ Some x → zip xs (ys ++ y ∷ []) ≡ zip xs ys ++ (x, y) ∷ []
zip_push [] ys x y e = absurd cc
zip_push {X = X} {Y = Y} (a ∷ xs) [] x y e =
    let first : a ≡ x = cc in
    rw (first, zip_none {X = X} {Y = Y} xs) refl
zip_push {X = X} {Y = Y} (a ∷ xs) (b ∷ ys) x y e =
    ap (λ (zs : List (X × Y)). (a, b) ∷ zs) (zip_push xs ys x y e)

-- whose turn it is has the next key pair
turn_row : (roster : RosterView) (level : List ℕ) (o : Option Partition)
    → level_named roster level ≡ o → has_turn roster o ≡ true
    → (row : LevelRow) × (slice_get roster.levels (length roster.keys) ≡ Some row)
    × (row.name ≡ level)
turn_row roster level None is turn = absurd cc
turn_row roster level (Some partition) is turn =
    let row = row_at_name roster level partition is in
    let place = eqb-true partition.0 (length roster.keys) turn in
    (row.0, sym (ap (slice_get roster.levels) place) ∙ row.1, row.2)

key_pushed : (roster : RosterView) (level : List ℕ) (pair : KeyPair) → roster.guard ≡ None
    → has_turn roster (level_named roster level) ≡ true
    → keyed roster ++ line.Key level pair ∷ [] ≡ keyed (with_keys roster pair)
key_pushed roster level pair none turn =
    let row = turn_row roster level (level_named roster level) refl turn in
    let pairs = zip roster.levels roster.keys in
    let said : line_of_key (row.0, pair) ≡ line.Key level pair =
    ap (λ (n : List ℕ). line.Key n pair) row.2 in
    let old : lines_of_keys roster ≡ map line_of_key pairs =
    ap (λ (g : Option KeyPair). map line_of_key pairs ++ map line_of_guard (listed g)) none
    ∙ append-nil (map line_of_key pairs) in
    let new : lines_of_keys (with_keys roster pair) ≡ map line_of_key (pairs ++ (row.0, pair) ∷ []) =
    ap (λ (g : Option KeyPair). map line_of_key (zip roster.levels (roster.keys ++ pair ∷ []))
    ++ map line_of_guard (listed g)) none
    ∙ append-nil (map line_of_key (zip roster.levels (roster.keys ++ pair ∷ [])))
    ∙ ap (map line_of_key) (zip_push roster.levels roster.keys row.0 pair row.1) in
    ap (λ (ls : List Line). (start roster ++ ls) ++ line.Key level pair ∷ []) old
    ∙ ap (λ (l : Line). (start roster ++ map line_of_key pairs) ++ l ∷ []) (sym said)
    ∙ one_pushed (start roster) line_of_key pairs (row.0, pair)
    ∙ ap (λ (ls : List Line). start roster ++ ls) (sym new)

guard_pushed : (roster : RosterView) (pair : KeyPair) → roster.guard ≡ None
    → keyed roster ++ line.Guard pair ∷ [] ≡ keyed (with_guard roster pair)
guard_pushed roster pair none =
    let keys = map line_of_key (zip roster.levels roster.keys) in
    let old : lines_of_keys roster ≡ keys =
    ap (λ (g : Option KeyPair). keys ++ map line_of_guard (listed g)) none ∙ append-nil keys in
    ap (λ (ls : List Line). (start roster ++ ls) ++ line.Guard pair ∷ []) old
    ∙ append_assoc (start roster) keys (line.Guard pair ∷ [])

host_added_some : (roster : RosterView) (address : ℕ) (o : Option Partition) (partition : Partition)
    → o ≡ Some partition
    → host_added roster address o ≡ record roster {
      hosts =
          roster.hosts ++ record { address = address; partition = partition } ∷ [];
    }
host_added_some roster address o partition e = rw e refl

-- ---- the facts that stand behind each kind of line

abbrev Orders : List Line → Option Kind → RosterView → List PlanRow → List Event → Bool → Line → Type 0
Orders lines last roster rows events ended next =
    InOrder (lines ++ next ∷ []) (after (made last roster rows events ended) next)

module _ (last : Option Kind) (roster : RosterView) (rows : List PlanRow) (events : List Event)
    (ended : Bool) (open_yet : ended ≡ false) where
  order_key : (level : List ℕ) (pair : KeyPair) → roster.guard ≡ None → IsQuiet roster rows events
      → has_turn roster (level_named roster level) ≡ true
      → Orders (keyed roster) last roster rows events ended (line.Key level pair)
  order_key level pair none quiet turn = record {
    shaped = key_pushed roster level pair none turn;
    bare = (none, record { no_hosts = quiet.no_hosts; no_rows = quiet.no_rows; no_events = quiet.no_events });
    ended = rw open_yet refl;
  }

  order_guard : (pair : KeyPair) → roster.guard ≡ None → IsQuiet roster rows events
      → Orders (keyed roster) last roster rows events ended (line.Guard pair)
  order_guard pair none quiet = record {
    shaped = guard_pushed roster pair none;
    bare = record { no_hosts = quiet.no_hosts; no_rows = quiet.no_rows; no_events = quiet.no_events };
    ended = rw open_yet refl;
  }

  order_host : (address : ℕ) (level : List ℕ) → rows ≡ [] → events ≡ []
      → is_some (level_named roster level) ≡ true
      → Orders (network roster) last roster rows events ended (line.Host address level)
  order_host address level no_rows no_events known =
      let p = some_of (level_named roster level) known in
      let row : HostRow = record { address = address; partition = p.0 } in
      let said : line_of_host roster row ≡ line.Host address level =
      ap (λ (n : List ℕ). line.Host address n) (named_at roster level p.0 p.1) in
      let grown : RosterView = record roster { hosts = roster.hosts ++ row ∷ [] } in
      let order : InOrder (network roster ++ line.Host address level ∷ [])
      (made (Some host_line) grown rows events (ended || false)) =
      record {
        shaped = ap (λ (l : Line). network roster ++ l ∷ []) (sym said)
            ∙ one_pushed (keyed roster) (line_of_host roster) roster.hosts row;
        bare = (no_rows, no_events);
        ended = rw open_yet refl;
      } in
      subst (λ (r : RosterView). InOrder (network roster ++ line.Host address level ∷ [])
      (made (Some host_line) r rows events (ended || false)))
      (sym (host_added_some roster address (level_named roster level) p.0 p.1)) order

  some_row : (o : Option PlanRow) → has_levels roster o ≡ true → (row : PlanRow) × (o ≡ Some row)
  some_row None h = absurd cc
  some_row (Some row) h = (row, refl)

  order_store : (reader : List ℕ) (words : StoreWords) → events ≡ []
      → has_levels roster (row_named roster reader words) ≡ true
      → Orders (planned roster rows) last roster rows events ended (line.Store reader words)
  order_store reader words no_events known =
      let row = some_row (row_named roster reader words) known in
      let said = row_back roster reader words row.0 row.1 in
      let order : InOrder (planned roster rows ++ line.Store reader words ∷ [])
      (made (Some store_line) roster (rows ++ row.0 ∷ []) events (ended || false)) =
      record {
        shaped = ap (λ (l : Line). planned roster rows ++ l ∷ []) (sym said)
            ∙ one_pushed (network roster) (line_of_row roster) rows row.0;
        bare = no_events;
        ended = rw open_yet refl;
      } in
      subst (λ (o : Option PlanRow). InOrder (planned roster rows ++ line.Store reader words ∷ [])
      (made (Some store_line) roster (with_some rows o) events (ended || false))) (sym row.1) order

  order_begin : events ≡ [] → Orders (planned roster rows) last roster rows events ended line.Begin
  order_begin no_events = record { shaped = refl; bare = no_events; ended = rw open_yet refl }

  some_event : (o : Option Event) → has_parties roster o ≡ true → (event : Event) × (o ≡ Some event)
  some_event None h = absurd cc
  some_event (Some event) h = (event, refl)

  order_event : (words : EventWords) → has_parties roster (event_named roster words) ≡ true
      → Orders (happened roster rows events) last roster rows events ended (line.Event words)
  order_event words known =
      let event = some_event (event_named roster words) known in
      let said : line_of_event roster event.0 ≡ line.Event words =
      ap (λ (w : EventWords). line.Event w) (event_back roster words event.0 event.1) in
      let order : InOrder (happened roster rows events ++ line.Event words ∷ [])
      (made (Some event_line) roster rows (events ++ event.0 ∷ []) (ended || false)) =
      record {
        shaped = ap (λ (l : Line). happened roster rows events ++ l ∷ []) (sym said)
            ∙ one_pushed (begun roster rows) (line_of_event roster) events event.0;
        bare = tt;
        ended = rw open_yet refl;
      } in
      subst (λ (o : Option Event). InOrder (happened roster rows events ++ line.Event words ∷ [])
      (made (Some event_line) roster rows (with_some events o) (ended || false))) (sym event.1) order

  order_end : Orders (happened roster rows events) last roster rows events ended line.End
  order_end = record { shaped = refl; bare = tt; ended = rw open_yet refl }

unset_on : (roster : RosterView) (rows : List PlanRow) (events : List Event) (name : List ℕ)
    (level : Level) → IsUnset roster rows events
    → IsUnset (with_level roster name level) rows events
unset_on roster rows events name level b = record {
  keys = b.keys;
  guard = b.guard;
  quiet = record { no_hosts = b.quiet.no_hosts; no_rows = b.quiet.no_rows; no_events = b.quiet.no_events };
}

-- a line that may stand behind lines in order leaves them in order
order_step : (last : Option Kind) (roster : RosterView) (rows : List PlanRow) (events : List Event)
    (ended : Bool) (next : Line) → Bare last roster rows events → ended ≡ closes last
    → may_follow roster last (kind_of next) ≡ true
    → has_names (made last roster rows events ended) next ≡ true
    → Orders (shape last roster rows events) last roster rows events ended next
order_step None roster rows events ended line.Version b e may known =
    record { shaped = refl; bare = b; ended = rw e refl }
order_step (Some version_line) roster rows events ended line.Seal b e may known = record {
  shaped = refl;
  bare = record {
    sealed = refl;
    levels = b.levels;
    unset = record {
      keys = b.unset.keys;
      guard = b.unset.guard;
      quiet = record {
        no_hosts = b.unset.quiet.no_hosts;
        no_rows = b.unset.quiet.no_rows;
        no_events = b.unset.quiet.no_events;
      };
    };
  };
  ended = rw e refl;
}
order_step (Some version_line) roster rows events ended (line.Level name level) b e may known =
    record {
      shaped = rw (b.sealed, b.levels) refl;
      bare = unset_on roster rows events name level
          b.unset;
      ended = rw e refl;
    }
order_step (Some seal_line) roster rows events ended (line.Level name level) b e may known =
    record {
      shaped = rw (b.sealed, b.levels) refl;
      bare = unset_on roster rows events name level
          b.unset;
      ended = rw e refl;
    }
order_step (Some level_line) roster rows events ended (line.Level name level) b e may known =
    record {
      shaped = one_pushed ((line.Version ∷ []) ++ lines_of_sealing roster.sealing) line_of_level
          roster.levels (record { name = name; level = level });
      bare = unset_on roster rows events name level b;
      ended = rw e refl;
    }
order_step (Some level_line) roster rows events ended (line.Key level pair) b e may known =
    let next = line.Key level pair in
    subst (λ (ls : List Line). Orders ls (Some level_line) roster rows events ended next)
    (sym (start_keyed roster b.keys b.guard))
    (order_key (Some level_line) roster rows events ended e level pair b.guard b.quiet known)
order_step (Some level_line) roster rows events ended (line.Host address level) b e may known =
    let next = line.Host address level in
    subst (λ (ls : List Line). Orders ls (Some level_line) roster rows events ended next)
    (sym (start_keyed roster b.keys b.guard ∙ keyed_network roster b.quiet.no_hosts))
    (order_host (Some level_line) roster rows events ended e address level b.quiet.no_rows
    b.quiet.no_events known)
order_step (Some level_line) roster rows events ended (line.Store reader words) b e may known =
    let next = line.Store reader words in
    subst (λ (ls : List Line). Orders ls (Some level_line) roster rows events ended next)
    (sym (start_keyed roster b.keys b.guard ∙ keyed_network roster b.quiet.no_hosts
    ∙ network_planned roster rows b.quiet.no_rows))
    (order_store (Some level_line) roster rows events ended e reader words b.quiet.no_events known)
order_step (Some level_line) roster rows events ended line.Begin b e may known =
    subst (λ (ls : List Line). Orders ls (Some level_line) roster rows events ended line.Begin)
    (sym (start_keyed roster b.keys b.guard ∙ keyed_network roster b.quiet.no_hosts
    ∙ network_planned roster rows b.quiet.no_rows))
    (order_begin (Some level_line) roster rows events ended e b.quiet.no_events)
order_step (Some key_line) roster rows events ended (line.Key level pair) b e may known =
    order_key (Some key_line) roster rows events ended e level pair b.0 b.1 known
order_step (Some key_line) roster rows events ended (line.Guard pair) b e may known =
    order_guard (Some key_line) roster rows events ended e pair b.0 b.1
order_step (Some guard_line) roster rows events ended (line.Host address level) b e may known =
    let next = line.Host address level in
    subst (λ (ls : List Line). Orders ls (Some guard_line) roster rows events ended next)
    (sym (keyed_network roster b.no_hosts))
    (order_host (Some guard_line) roster rows events ended e address level b.no_rows b.no_events known)
order_step (Some guard_line) roster rows events ended (line.Store reader words) b e may known =
    let next = line.Store reader words in
    subst (λ (ls : List Line). Orders ls (Some guard_line) roster rows events ended next)
    (sym (keyed_network roster b.no_hosts ∙ network_planned roster rows b.no_rows))
    (order_store (Some guard_line) roster rows events ended e reader words b.no_events known)
order_step (Some guard_line) roster rows events ended line.Begin b e may known =
    subst (λ (ls : List Line). Orders ls (Some guard_line) roster rows events ended line.Begin)
    (sym (keyed_network roster b.no_hosts ∙ network_planned roster rows b.no_rows))
    (order_begin (Some guard_line) roster rows events ended e b.no_events)
order_step (Some host_line) roster rows events ended (line.Host address level) b e may known =
    order_host (Some host_line) roster rows events ended e address level b.0 b.1 known
order_step (Some host_line) roster rows events ended (line.Store reader words) b e may known =
    let next = line.Store reader words in
    subst (λ (ls : List Line). Orders ls (Some host_line) roster rows events ended next)
    (sym (network_planned roster rows b.0))
    (order_store (Some host_line) roster rows events ended e reader words b.1 known)
order_step (Some host_line) roster rows events ended line.Begin b e may known =
    subst (λ (ls : List Line). Orders ls (Some host_line) roster rows events ended line.Begin)
    (sym (network_planned roster rows b.0))
    (order_begin (Some host_line) roster rows events ended e b.1)
order_step (Some store_line) roster rows events ended (line.Store reader words) b e may known =
    order_store (Some store_line) roster rows events ended e reader words b known
order_step (Some store_line) roster rows events ended line.Begin b e may known =
    order_begin (Some store_line) roster rows events ended e b
order_step (Some begin_line) roster rows events ended (line.Event words) b e may known =
    let next = line.Event words in
    subst (λ (ls : List Line). Orders ls (Some begin_line) roster rows events ended next)
    (sym (begun_happened roster rows events b))
    (order_event (Some begin_line) roster rows events ended e words known)
order_step (Some begin_line) roster rows events ended line.End b e may known =
    subst (λ (ls : List Line). Orders ls (Some begin_line) roster rows events ended line.End)
    (sym (begun_happened roster rows events b))
    (order_end (Some begin_line) roster rows events ended e)
order_step (Some event_line) roster rows events ended (line.Event words) b e may known =
    order_event (Some event_line) roster rows events ended e words known
order_step (Some event_line) roster rows events ended line.End b e may known =
    order_end (Some event_line) roster rows events ended e
order_step last roster rows events ended next b e may known = absurd cc

-- ---- lines in order have no host, no row and no event before their turn

nothing_levels : {A : Type 0} (f : Line → Option A) → ((row : LevelRow) → f (line_of_level row) ≡ None)
    → (levels : List LevelRow) → filter_map f (map line_of_level levels) ≡ []
nothing_levels f none [] = refl
nothing_levels f none (row ∷ levels) = rw (none row) (nothing_levels f none levels)

nothing_start : {A : Type 0} (f : Line → Option A) → f line.Version ≡ None → f line.Seal ≡ None
    → ((row : LevelRow) → f (line_of_level row) ≡ None)
    → (sealing : Sealing) (levels : List LevelRow)
    → filter_map f ((line.Version ∷ []) ++ lines_of_sealing sealing ++ map line_of_level levels)
    ≡ []
nothing_start f version seal none Clear levels = rw version (nothing_levels f none levels)
nothing_start f version seal none Des levels = rw (version, seal) (nothing_levels f none levels)

-- in front of a level stand the version, the sealing and levels alone
before_level : {A : Type 0} (f : Line → Option A) → f line.Version ≡ None → f line.Seal ≡ None
    → ((row : LevelRow) → f (line_of_level row) ≡ None)
    → (last : Option Kind) (roster : RosterView) (rows : List PlanRow) (events : List Event)
    → may_follow roster last level_line ≡ true → filter_map f (shape last roster rows events) ≡ []
before_level f version seal none (Some version_line) roster rows events may = rw version refl
before_level f version seal none (Some seal_line) roster rows events may = rw (version, seal) refl
before_level f version seal none (Some level_line) roster rows events may =
    nothing_start f version seal none roster.sealing roster.levels
before_level f version seal none last roster rows events may = absurd cc

no_hosts : (last : Option Kind) (roster : RosterView) (rows : List PlanRow) (events : List Event)
    → may_follow roster last level_line ≡ true → NoHosts (shape last roster rows events)
no_hosts last roster rows events may r =
    before_level (as_host r) refl refl (λ row. refl) last roster rows events may

no_rows : (last : Option Kind) (roster : RosterView) (rows : List PlanRow) (events : List Event)
    → may_follow roster last level_line ≡ true → NoRows (shape last roster rows events)
no_rows last roster rows events may r =
    before_level (as_row r) refl refl (λ row. refl) last roster rows events may

no_events : (last : Option Kind) (roster : RosterView) (rows : List PlanRow) (events : List Event)
    → may_follow roster last level_line ≡ true → NoEvents (shape last roster rows events)
no_events last roster rows events may r =
    before_level (as_event r) refl refl (λ row. refl) last roster rows events may

-- what lines in order say with one more that may stand behind them
says_step : (last : Option Kind) (roster : RosterView) (rows : List PlanRow) (events : List Event)
    (next : Line) → may_follow roster last (kind_of next) ≡ true
    → facts (shape last roster rows events ++ next ∷ [])
    ≡ after (facts (shape last roster rows events)) next
says_step last roster rows events line.Version may = push_version (shape last roster rows events)
says_step last roster rows events line.Seal may = push_seal (shape last roster rows events)
says_step last roster rows events (line.Level name level) may =
    push_level (shape last roster rows events) name level (no_hosts last roster rows events may)
    (no_rows last roster rows events may) (no_events last roster rows events may)
says_step last roster rows events (line.Key level pair) may =
    push_key (shape last roster rows events) level pair
says_step last roster rows events (line.Guard pair) may =
    push_guard (shape last roster rows events) pair
says_step last roster rows events (line.Host address level) may =
    push_host (shape last roster rows events) address level
says_step last roster rows events (line.Store reader words) may =
    push_store (shape last roster rows events) reader words
says_step last roster rows events line.Begin may = push_begin (shape last roster rows events)
says_step last roster rows events (line.Event words) may =
    push_event (shape last roster rows events) words
says_step last roster rows events line.End may = push_end (shape last roster rows events)

-- lines that stand in order, and what they say
pub record Stand (lines : List Line) (said : Facts) : Type 0 where
  pub says : facts lines ≡ said
  pub order : InOrder lines said

pub stand_first : Stand [] (facts [])
stand_first = record {
  says = refl;
  order = record {
    shaped = refl;
    bare = record {
      sealed = refl;
      levels = refl;
      unset = record {
        keys = refl;
        guard = refl;
        quiet = record { no_hosts = refl; no_rows = refl; no_events = refl };
      };
    };
    ended = refl;
  };
}

pub stand_push : (lines : List Line) (said : Facts) (next : Line) → Stand lines said
    → may_follow said.roster said.last (kind_of next) ≡ true → has_names said next ≡ true
    → Stand (lines ++ next ∷ []) (after said next)
stand_push lines said next at may known =
    let shaped = at.order.shaped in
    let whole = shape said.last said.roster said.rows said.events in
    let says : facts (whole ++ next ∷ []) ≡ after said next =
    says_step said.last said.roster said.rows said.events next may
    ∙ ap (λ (f : Facts). after f next) (ap facts (sym shaped) ∙ at.says) in
    let order = order_step said.last said.roster said.rows said.events said.ended next
    at.order.bare at.order.ended may known in
    let stands : Stand (whole ++ next ∷ []) (after said next) =
    record { says = says; order = order } in
    subst (λ (ls : List Line). Stand (ls ++ next ∷ []) (after said next)) (sym shaped) stands
