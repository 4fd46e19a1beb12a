-- The text of a script that lines can say is read as the script.
use Rattle.std.proofs.Common.{◌≡◌, ℕ, ◌<◌, ◌≤◌, true, false, ltb, List, [], ◌∷◌, ◌++◌, length, map, Option, Some, None, refl, sym, ap, subst, ◌∙◌, arith, append_assoc, length-append}
use Rattle.std.specs.Prelude.{slice_get}
use Rattle.std.specs.List.{AllByRecursion, flat_map, zip}
use Rattle.std.proofs.lemmas.Bool.{lt-ltb, eq-eqb}
use Rattle.std.proofs.lemmas.Bool.Decides.{nat_tests}
use Rattle.std.proofs.lemmas.List.{append-nil, map_push, map-append, length-map}
use Rattle.std.proofs.lemmas.Option.{slice_get_within}
use Rattle.std.proofs.lemmas.Slice.Zip.{length-zip}
use Rattle.seal_core.specs.declared.KeyPair.{KeyPair}
use Rattle.levels.specs.declared.level.Party.{Party}
use Rattle.levels.specs.declared.level.Party.TheVariants.{Host, Manager}
use Rattle.levels.specs.declared.rows.LevelRow.{LevelRow}
use Rattle.levels.specs.declared.rows.HostRow.{HostRow}
use Rattle.levels.specs.declared.level.Sealing.{Sealing}
use Rattle.levels.specs.declared.level.Sealing.TheVariants.{Clear, Des}
use Rattle.levels.specs.Rosters.{RosterView, level_named}
use Rattle.levels.specs.Keys.{keys_of, listed}
use Rattle.levels.specs.Kept.{IsRoster, IsComplete, IsHostRow, AreApart, AreKeys}
use Rattle.file_calls.specs.declared.call.Call.{Call}
use Rattle.file_calls.specs.declared.call.Call.TheVariants as call
use Rattle.untrusted_store.specs.declared.plan.PlanRow.{PlanRow}
use Rattle.untrusted_store.specs.declared.plan.StoreAction.{StoreAction}
use Rattle.untrusted_store.specs.declared.plan.StoreAction.TheVariants.{Honest, Of, Flip, Gone}
use Rattle.events.specs.declared.event.Event.{Event}
use Rattle.events.specs.declared.event.Event.TheVariants.{Send, Ask, Arrive, Carry, Forge, Tamper}
use Rattle.events.specs.declared.event.Stream.{Stream}
use Rattle.events.specs.ScriptView.{ScriptView}
use Rattle.events.specs.Scripts.{is_known, has_level, is_call_named, is_action_named, IsEvent, IsPlanRow, IsScript}
use Rattle.script.specs.Lines.{Line}
use Rattle.script.specs.Lines as line
use Rattle.script.specs.Spelling.{ended_text}
use Rattle.script.specs.Naming.{party_named, stream_named, call_named, event_named, action_named, row_named}
use Rattle.script.specs.Facts.{Kind, version_line, seal_line, level_line, key_line, guard_line, host_line, store_line, begin_line, event_line, end_line, Facts, facts}
use Rattle.script.specs.Reasons.{is_des, may_follow, against}
use Rattle.script.specs.Text.{name_or_none, party_said, stream_said, call_said, event_said, action_said, lines_of_sealing, line_of_level, line_of_key, line_of_guard, lines_of_keys, line_of_host, line_of_row, line_of_event, script_lines, text_of}
use Rattle.script.specs.Laws.{ScriptsReadAgain}
use Rattle.script.specs.inside.Stages.{no_roster, with_some, host_added, after}
use Rattle.script.proofs.Tools.{both, all_right}
use Rattle.script.proofs.Naming.{some_of}
use Rattle.script.proofs.Looping.{said_by}
use Rattle.script.proofs.Pushes.{made}
use Rattle.script.proofs.Order.{no_pairs}
use Rattle.script.proofs.Taking.{Goes, goes_none, goes_cons, goes_append, goes_read}
use Rattle.script.proofs.Found.{not_taken, no_host_row, name_back, name_place}
use Rattle.script.proofs.Strong.{behind_others, before_others, keys_right}
use Rattle.script.proofs.Fitting.{known_place, AreKnown, all_known, script_ranges}

-- ---- words and what they stand for

has_place : (roster : RosterView) (level : ℕ) → AreApart (λ (r : LevelRow). r.name) roster.levels
    → has_level roster level ≡ true
    → level_named roster (name_or_none roster level) ≡ Some (record { 0 = level })
has_place roster level apart has = name_back roster level (lt_level has) apart
  where
    lt_level : has_level roster level ≡ true → level < length roster.levels
    lt_level has = grind (arith, nat_tests)

party_again : (roster : RosterView) (party : Party)
    → AreApart (λ (r : LevelRow). r.name) roster.levels → is_known roster party ≡ true
    → party_named roster (party_said roster party) ≡ Some party
party_again roster (Host address) apart known = refl
party_again roster (Manager partition) apart known =
    rw (name_back roster partition.0 (known_place roster partition known) apart) refl

stream_again : (roster : RosterView) (stream : Stream) (at : Party)
    → AreApart (λ (r : LevelRow). r.name) roster.levels → AreKnown roster stream at
    → stream_named roster (stream_said roster stream) ≡ Some stream
stream_again roster stream at apart known =
    rw (party_again roster stream.from apart known.0, party_again roster stream.to apart known.1)
    refl

call_again : (roster : RosterView) (asked : Call)
    → AreApart (λ (r : LevelRow). r.name) roster.levels → is_call_named roster asked ≡ true
    → call_named roster (call_said roster asked) ≡ Some asked
call_again roster (call.Put name content) apart named = refl
call_again roster (call.Get level name) apart named = rw (has_place roster level apart named) refl
call_again roster (call.List level) apart named = rw (has_place roster level apart named) refl
call_again roster (call.Remove name) apart named = refl
call_again roster (call.Append name content) apart named = refl
call_again roster (call.GetBlock level name block) apart named =
    rw (has_place roster level apart named) refl

-- the words of an event name it
event_again : (roster : RosterView) (event : Event)
    → AreApart (λ (r : LevelRow). r.name) roster.levels → IsEvent roster event
    → event_named roster (event_said roster event) ≡ Some event
event_again roster (Send from to message) apart is =
    let known = both (is_known roster (Host from)) (is_known roster to) is.named in
    rw (party_again roster to apart known.1) refl
event_again roster (Ask from asked) apart is =
    let known = both (is_known roster (Host from)) (is_call_named roster asked) is.named in
    rw (call_again roster asked apart known.1) refl
event_again roster (Arrive stream message piece at) apart is =
    let known = all_known roster stream at is.named in
    rw (stream_again roster stream at apart known, party_again roster at apart known.2) refl
event_again roster (Carry stream message at) apart is =
    let known = all_known roster stream at is.named in
    rw (stream_again roster stream at apart known, party_again roster at apart known.2) refl
event_again roster (Forge at bytes) apart is =
    rw (party_again roster at apart is.named) refl
event_again roster (Tamper stream message piece at edits) apart is =
    let known = all_known roster stream at is.named in
    rw (stream_again roster stream at apart known, party_again roster at apart known.2) refl

action_again : (roster : RosterView) (action : StoreAction)
    → AreApart (λ (r : LevelRow). r.name) roster.levels → is_action_named roster action ≡ true
    → action_named roster (action_said roster action) ≡ Some action
action_again roster Honest apart named = refl
action_again roster (Of level version) apart named = rw (has_place roster level apart named) refl
action_again roster (Flip offset xor) apart named = refl
action_again roster Gone apart named = refl

row_again : (roster : RosterView) (row : PlanRow)
    → AreApart (λ (r : LevelRow). r.name) roster.levels → IsPlanRow roster row
    → row_named roster (name_or_none roster row.reader.0) (action_said roster row.action)
    ≡ Some row
row_again roster row apart is =
    let named = both (has_level roster row.reader.0) (is_action_named roster row.action) is.named in
    rw (
      has_place roster row.reader.0 apart named.0,
      action_again roster row.action apart named.1,
    ) refl

-- ---- small things

abbrev last_of : {X : Type 0} → Kind → Option Kind → List X → Option Kind
last_of kind last [] = last
last_of kind last (x ∷ xs) = Some kind

same_last : {X : Type 0} (kind : Kind) (xs : List X) → last_of kind (Some kind) xs ≡ Some kind
same_last kind [] = refl
same_last kind (x ∷ xs) = refl

some_last : {X : Type 0} (kind : Kind) (last : Option Kind) (xs : List X) → 0 < length xs
    → last_of kind last xs ≡ Some kind
some_last kind last [] some = absurd (omega arith)
some_last kind last (x ∷ xs) some = refl

regroup : {X : Type 0} (seen : List X) (x : X) (xs : List X)
    → (seen ++ x ∷ []) ++ xs ≡ seen ++ x ∷ xs
regroup seen x xs = append_assoc seen (x ∷ []) xs

room_left : {X : Type 0} (seen : List X) (x : X) (xs : List X) (n : ℕ) → length (seen ++ x ∷ xs) ≤ n
    → length seen < n
room_left seen x xs n le = omega (arith, length-append seen (x ∷ xs))

-- ---- two lists side by side

zip_at : {X Y : Type 0} (xs : List X) (ys : List Y) (above : List (X × Y)) (z : X × Y)
    (below : List (X × Y)) → zip xs ys ≡ above ++ z ∷ below → slice_get xs (length above) ≡ Some z.0
zip_at [] [] [] z below e = absurd cc
zip_at [] [] (a ∷ above) z below e = absurd cc
zip_at [] (y ∷ ys) [] z below e = absurd cc
zip_at [] (y ∷ ys) (a ∷ above) z below e = absurd cc
zip_at (x ∷ xs) [] [] z below e = absurd cc
zip_at (x ∷ xs) [] (a ∷ above) z below e = absurd cc
zip_at {X = X} {Y = Y} (x ∷ xs) (y ∷ ys) [] z below e =
    let same : (x, y) ≡ z = cc in
    ap (λ (p : X × Y). Some p.0) same
zip_at {X = X} {Y = Y} (x ∷ xs) (y ∷ ys) (a ∷ above) z below e =
    let rest : zip xs ys ≡ above ++ z ∷ below = cc in
    zip_at xs ys above z below rest

zip_pairs : {X Y : Type 0} (xs : List X) (ys : List Y) → length ys ≡ length xs
    → map (λ (p : X × Y). p.1) (zip xs ys) ≡ ys
zip_pairs [] [] same = refl
zip_pairs [] (y ∷ ys) same = absurd (omega arith)
zip_pairs (x ∷ xs) [] same = absurd (omega arith)
zip_pairs {Y = Y} (x ∷ xs) (y ∷ ys) same = ap (λ (zs : List Y). y ∷ zs)
    (zip_pairs xs ys (omega arith))

-- One line for each of some elements, each of which is added behind the others: what is said goes
-- from those that were seen to all.
module _ {X : Type 0} (kind : Kind) (f : X → Line) (with : Option Kind → List X → Facts) where
  abbrev Adds : Option Kind → List X → X → Type 0
  Adds last seen x = (against (with last seen) (f x) ≡ None)
      × (after (with last seen) (f x) ≡ with (Some kind) (seen ++ x ∷ []))

  adds_go : (last : Option Kind) (seen xs : List X)
      → ((above : List X) (x : X) (below : List X) → seen ++ xs ≡ above ++ x ∷ below
      → Adds (last_of kind last above) above x)
      → Goes (with (last_of kind last seen) seen) (map f xs) (with (last_of kind last (seen ++ xs))
      (seen ++ xs))
  adds_go last seen [] each =
      subst (λ (all : List X). Goes (with (last_of kind last seen) seen) []
      (with (last_of kind last all) all)) (sym (append-nil seen))
      (goes_none (with (last_of kind last seen) seen))
  adds_go last seen (x ∷ xs) each =
      let one = each seen x xs refl in
      let group = regroup seen x xs in
      let new = seen ++ x ∷ [] in
      let on = adds_go last new xs (λ above y below e. each above y below (sym group ∙ e)) in
      let from : with (last_of kind last new) new ≡ with (Some kind) new =
      ap (λ (k : Option Kind). with k new) (pushed_last seen) in
      let there : Goes (with (Some kind) new) (map f xs)
      (with (last_of kind last (seen ++ x ∷ xs)) (seen ++ x ∷ xs)) =
      subst (λ (all : List X). Goes (with (Some kind) new) (map f xs)
      (with (last_of kind last all) all)) group
      (subst (λ (a : Facts). Goes a (map f xs) (with (last_of kind last (new ++ xs)) (new ++ xs)))
      from on) in
      goes_cons (with (last_of kind last seen) seen) (f x) (with (Some kind) new) (map f xs)
      (with (last_of kind last (seen ++ x ∷ xs)) (seen ++ x ∷ xs)) one.0 one.1 there
    where
      pushed_last : (seen : List X) → last_of kind last (seen ++ x ∷ []) ≡ Some kind
      pushed_last [] = refl
      pushed_last (y ∷ seen) = refl

-- ---- the sealing, and the levels

abbrev sealed_last : Sealing → Option Kind
sealed_last Clear = Some version_line
sealed_last Des = Some seal_line

sealing_goes : (sealing : Sealing)
    → Goes (made (Some version_line) (no_roster Clear) [] [] false) (lines_of_sealing sealing)
    (made (sealed_last sealing) (no_roster sealing) [] [] false)
unfolding against
sealing_goes Clear = goes_none (made (Some version_line) (no_roster Clear) [] [] false)
sealing_goes Des =
    let then = made (Some seal_line) (no_roster Des) [] [] false in
    goes_cons (made (Some version_line) (no_roster Clear) [] [] false) line.Seal then [] then refl
    refl (goes_none then)

module _ (roster : RosterView) (good : IsRoster roster) where
  abbrev levels_with : Option Kind → List LevelRow → Facts
  levels_with last seen = made last (record (no_roster roster.sealing) { levels = seen }) [] [] false

  may_level : (r : RosterView) (sealing : Sealing) (above : List LevelRow)
      → may_follow r (last_of level_line (sealed_last sealing) above) level_line ≡ true
  may_level r Clear [] = refl
  may_level r Des [] = refl
  may_level r sealing (row ∷ above) = refl

  level_adds : (above : List LevelRow) (row : LevelRow) (below : List LevelRow)
      → roster.levels ≡ above ++ row ∷ below
      → Adds level_line line_of_level levels_with
      (last_of level_line (sealed_last roster.sealing) above) above row
  unfolding against
  level_adds above row below e =
      let r : RosterView = record (no_roster roster.sealing) { levels = above } in
      let names = subst (AreApart (λ (r : LevelRow). r.name)) e good.names_apart in
      let values = subst (AreApart (λ (r : LevelRow). r.level)) e good.values_apart in
      let room = subst (λ (all : List LevelRow). length all ≤ 16) e good.level_room in
      let new = not_taken r row below names values in (
        rw (
          may_level r roster.sealing above,
          new,
          lt-ltb (length above) 16 (room_left above row below 16 room),
        ) refl,
        refl,
      )

  levels_go : 0 < length roster.levels
      → Goes (made (sealed_last roster.sealing) (no_roster roster.sealing) [] [] false)
      (map line_of_level roster.levels) (levels_with (Some level_line) roster.levels)
  levels_go some =
      let last = sealed_last roster.sealing in
      subst (λ (k : Option Kind). Goes (levels_with last []) (map line_of_level roster.levels)
      (levels_with k roster.levels)) (some_last level_line last roster.levels some)
      (adds_go level_line line_of_level levels_with last [] roster.levels level_adds)

  -- ---- key pairs

  abbrev Keyed : Type 0
  Keyed = LevelRow × KeyPair

  abbrev pairs_in : List Keyed → List KeyPair
  pairs_in keys = map (λ (key : Keyed). key.1) keys

  abbrev keys_with : Option Kind → List Keyed → Facts
  keys_with last seen =
      made last (record roster { keys = pairs_in seen; guard = None; hosts = [] }) [] [] false

  abbrev hosts_with : Option Kind → List HostRow → Facts
  hosts_with last seen = made last (record roster { hosts = seen }) [] [] false

  -- under DES
  module _ (des : roster.sealing ≡ Des) (all : length roster.keys ≡ length roster.levels)
      (guard : KeyPair) (guarded : roster.guard ≡ Some guard) where
    strong : AreKeys (keys_of (guard ∷ roster.keys))
    strong = subst (λ (g : Option KeyPair). AreKeys (keys_of (listed g ++ roster.keys))) guarded
        good.keys

    may_key : (above : List Keyed) → length above < length roster.levels
        → may_follow (record roster { keys = pairs_in above; guard = None; hosts = [] })
        (last_of key_line (Some level_line) above) key_line ≡ true
    may_key [] lt = ap is_des des
    may_key (key ∷ above) lt = lt-ltb (length (pairs_in (key ∷ above))) (length roster.levels)
        (omega (arith, length-map (key ∷ above) (λ (k : Keyed). k.1)))

    key_adds : (above : List Keyed) (key : Keyed) (below : List Keyed)
        → zip roster.levels roster.keys ≡ above ++ key ∷ below
        → Adds key_line line_of_key keys_with (last_of key_line (Some level_line) above) above key
    unfolding against
    key_adds above key below e =
        let r : RosterView = record roster { keys = pairs_in above; guard = None; hosts = [] } in
        let row = zip_at roster.levels roster.keys above key below e in
        let lt = slice_get_within roster.levels (length above) key.0 row in
        let turn = name_place r (length above) key.0 row good.names_apart in
        let counted : length above ≡ length (pairs_in above) =
        sym (length-map above (λ (k : Keyed). k.1)) in
        let split : roster.keys ≡ pairs_in above ++ key.1 ∷ pairs_in below =
        sym (zip_pairs roster.levels roster.keys all) ∙ ap pairs_in e
        ∙ map-append (λ (k : Keyed). k.1) above (key ∷ below) in
        let are = subst (λ (ks : List KeyPair). AreKeys (keys_of ks)) split
        (keys_right (guard ∷ []) roster.keys strong) in
        let new = behind_others (pairs_in above) key.1 (pairs_in below) are in (
          rw (may_key above lt, turn, eq-eqb (length above) (length (pairs_in above)) counted, new)
              refl,
          ap (λ (ks : List KeyPair). made (Some key_line)
              (record roster { keys = ks; guard = None; hosts = [] }) [] [] false)
              (sym (map_push (λ (k : Keyed). k.1) above key)),
        )

    pairs_go : 0 < length roster.levels
        → Goes (keys_with (Some level_line) []) (map line_of_key (zip roster.levels roster.keys))
        (made (Some key_line) (record roster { guard = None; hosts = [] }) [] [] false)
    pairs_go some =
        let keys = zip roster.levels roster.keys in
        let many : 0 < length keys =
        omega (arith, length-zip roster.levels roster.keys) in
        let go = adds_go key_line line_of_key keys_with (Some level_line) [] keys key_adds in
        subst (λ (ks : List KeyPair). Goes (keys_with (Some level_line) []) (map line_of_key keys)
        (made (Some key_line) (record roster { keys = ks; guard = None; hosts = [] }) [] [] false))
        (zip_pairs roster.levels roster.keys all)
        (subst (λ (k : Option Kind). Goes (keys_with (Some level_line) []) (map line_of_key keys)
        (keys_with k keys)) (some_last key_line (Some level_line) keys many) go)

    guard_goes : Goes (made (Some key_line) (record roster { guard = None; hosts = [] }) [] [] false)
        (line.Guard guard ∷ []) (hosts_with (Some guard_line) [])
    unfolding against
    guard_goes =
        let said = made (Some key_line) (record roster { guard = None; hosts = [] }) [] [] false in
        let then = hosts_with (Some guard_line) [] in
        let none : ltb (length roster.keys) (length roster.levels) ≡ false =
        grind (arith, nat_tests, all) in
        goes_cons said (line.Guard guard) then [] then
        (rw (none, before_others guard roster.keys strong) refl)
        (ap (λ (g : Option KeyPair). made (Some guard_line)
        (record roster { guard = g; hosts = [] }) [] [] false) (sym guarded))
        (goes_none then)

    keys_go_des : 0 < length roster.levels
        → Goes (levels_with (Some level_line) roster.levels) (lines_of_keys roster)
        (hosts_with (Some guard_line) [])
    keys_go_des some =
        let keys = map line_of_key (zip roster.levels roster.keys) in
        let mid = made (Some key_line) (record roster { guard = None; hosts = [] }) [] [] false in
        let lines : lines_of_keys roster ≡ keys ++ line.Guard guard ∷ [] =
        ap (λ (g : Option KeyPair). keys ++ map line_of_guard (listed g)) guarded in
        subst (λ (ls : List Line). Goes (levels_with (Some level_line) roster.levels) ls
        (hosts_with (Some guard_line) [])) (sym lines)
        (goes_append (levels_with (Some level_line) roster.levels) keys mid
        (line.Guard guard ∷ []) (hosts_with (Some guard_line) []) (pairs_go some) guard_goes)

  abbrev keys_last : Sealing → Option Kind
  keys_last Clear = Some level_line
  keys_last Des = Some guard_line

  keys_go : IsComplete roster
      → Goes (levels_with (Some level_line) roster.levels) (lines_of_keys roster)
      (hosts_with (keys_last roster.sealing) [])
  keys_go complete = by_sealing roster.sealing refl
    where
      by_sealing : (sealing : Sealing) → roster.sealing ≡ sealing
          → Goes (levels_with (Some level_line) roster.levels) (lines_of_keys roster)
          (hosts_with (keys_last sealing) [])
      by_sealing Clear is =
          let none = good.clear is in
          let lines : lines_of_keys roster ≡ [] =
          rw (none.keys, none.guard, no_pairs roster.levels) refl in
          let same : levels_with (Some level_line) roster.levels ≡ hosts_with (Some level_line) [] =
          ap (λ (ks : List KeyPair). made (Some level_line)
          (record roster { keys = ks; guard = None; hosts = [] }) [] [] false) (sym none.keys)
          ∙ ap (λ (g : Option KeyPair). made (Some level_line)
          (record roster { guard = g; hosts = [] }) [] [] false) (sym none.guard) in
          subst (λ (ls : List Line). Goes (levels_with (Some level_line) roster.levels) ls
          (hosts_with (Some level_line) [])) (sym lines)
          (subst (Goes (levels_with (Some level_line) roster.levels) []) same
          (goes_none (levels_with (Some level_line) roster.levels)))
      by_sealing Des is =
          let all = complete.keys is in
          let guard = some_of roster.guard all.guard in
          keys_go_des is all.levels guard.0 guard.1 complete.some

  -- ---- hosts

  may_host : (above : List HostRow)
      → may_follow (record roster { hosts = above })
      (last_of host_line (keys_last roster.sealing) above) host_line ≡ true
  may_host [] = by_sealing roster.sealing refl
    where
      by_sealing : (sealing : Sealing) → roster.sealing ≡ sealing
          → may_follow (record roster { hosts = [] }) (keys_last sealing) host_line ≡ true
      by_sealing Clear is = rw is refl
      by_sealing Des is = refl
  may_host (row ∷ above) = refl

  host_adds : (above : List HostRow) (row : HostRow) (below : List HostRow)
      → roster.hosts ≡ above ++ row ∷ below
      → Adds host_line (line_of_host roster) hosts_with
      (last_of host_line (keys_last roster.sealing) above) above row
  unfolding against
  host_adds above row below e =
      let r : RosterView = record roster { hosts = above } in
      let all = subst (AllByRecursion (IsHostRow (length roster.levels))) e good.hosts in
      let is = (all_right (IsHostRow (length roster.levels)) above (row ∷ below) all).0 in
      let back = name_back r row.partition.0 is.partition good.names_apart in
      let apart = subst (AreApart (λ (r : HostRow). r.address)) e good.addresses_apart in
      let room = subst (λ (hs : List HostRow). length hs ≤ 64) e good.host_room in (
        rw (
          may_host above,
          back,
          no_host_row r row below apart,
          lt-ltb (length above) 64 (room_left above row below 64 room),
        ) refl,
        ap (λ (r' : RosterView). made (Some host_line) r' [] [] false)
            (ap (host_added r row.address) back),
      )

  abbrev hosts_last : Option Kind
  hosts_last = last_of host_line (keys_last roster.sealing) roster.hosts

  hosts_go : Goes (hosts_with (keys_last roster.sealing) [])
      (map (line_of_host roster) roster.hosts) (made hosts_last roster [] [] false)
  hosts_go = adds_go host_line (line_of_host roster) hosts_with (keys_last roster.sealing) []
      roster.hosts host_adds

  -- ---- rows of the plan

  abbrev rows_with : Option Kind → List PlanRow → Facts
  rows_with last seen = made last roster seen [] false

  may_behind : (kind : Kind) (hosts : List HostRow)
      → ((sealing : Sealing) → roster.sealing ≡ sealing
      → may_follow roster (keys_last sealing) kind ≡ true)
      → may_follow roster (Some host_line) kind ≡ true
      → may_follow roster (last_of host_line (keys_last roster.sealing) hosts) kind ≡ true
  may_behind kind [] keys host = keys roster.sealing refl
  may_behind kind (row ∷ hosts) keys host = host

  store_behind_keys : (sealing : Sealing) → roster.sealing ≡ sealing
      → may_follow roster (keys_last sealing) store_line ≡ true
  store_behind_keys Clear is = rw is refl
  store_behind_keys Des is = refl

  begin_behind_keys : (sealing : Sealing) → roster.sealing ≡ sealing
      → may_follow roster (keys_last sealing) begin_line ≡ true
  begin_behind_keys Clear is = rw is refl
  begin_behind_keys Des is = refl

  may_store : (above : List PlanRow)
      → may_follow roster (last_of store_line hosts_last above) store_line ≡ true
  may_store [] = may_behind store_line roster.hosts store_behind_keys refl
  may_store (row ∷ above) = refl

  may_begin : (rows : List PlanRow)
      → may_follow roster (last_of store_line hosts_last rows) begin_line ≡ true
  may_begin [] = may_behind begin_line roster.hosts begin_behind_keys refl
  may_begin (row ∷ rows) = refl

  module _ (rows : List PlanRow) (plan : AllByRecursion (IsPlanRow roster) rows)
      (row_room : length rows ≤ 100000) where
    row_adds : (above : List PlanRow) (row : PlanRow) (below : List PlanRow)
        → rows ≡ above ++ row ∷ below
        → Adds store_line (line_of_row roster) rows_with (last_of store_line hosts_last above)
        above row
    unfolding against
    row_adds above row below e =
        let is = (all_right (IsPlanRow roster) above (row ∷ below)
        (subst (AllByRecursion (IsPlanRow roster)) e plan)).0 in
        let again = row_again roster row good.names_apart is in
        let room = subst (λ (rs : List PlanRow). length rs ≤ 100000) e row_room in (
          rw (
            may_store above,
            again,
            is.named,
            lt-ltb (length above) 100000 (room_left above row below 100000 room),
          ) refl,
          ap (λ (o : Option PlanRow). made (Some store_line) roster (with_some above o) [] false)
              again,
        )

    abbrev rows_last : Option Kind
    rows_last = last_of store_line hosts_last rows

    rows_go : Goes (made hosts_last roster [] [] false) (map (line_of_row roster) rows)
        (made rows_last roster rows [] false)
    rows_go = adds_go store_line (line_of_row roster) rows_with hosts_last [] rows row_adds

    begin_goes : Goes (made rows_last roster rows [] false) (line.Begin ∷ [])
        (made (Some begin_line) roster rows [] false)
    unfolding against
    begin_goes =
        let then = made (Some begin_line) roster rows [] false in
        goes_cons (made rows_last roster rows [] false) line.Begin then [] then
        (rw (may_begin rows) refl) refl (goes_none then)

    -- ---- events

    abbrev events_with : Option Kind → List Event → Facts
    events_with last seen = made last roster rows seen false

    may_event : (above : List Event)
        → may_follow roster (last_of event_line (Some begin_line) above) event_line ≡ true
    may_event [] = refl
    may_event (event ∷ above) = refl

    may_end : (events : List Event)
        → may_follow roster (last_of event_line (Some begin_line) events) end_line ≡ true
    may_end [] = refl
    may_end (event ∷ events) = refl

    module _ (events : List Event) (are : AllByRecursion (IsEvent roster) events)
        (room : length events ≤ 100000) where
      event_adds : (above : List Event) (event : Event) (below : List Event)
          → events ≡ above ++ event ∷ below
          → Adds event_line (line_of_event roster) events_with
          (last_of event_line (Some begin_line) above) above event
      unfolding against
      event_adds above event below e =
          let is = (all_right (IsEvent roster) above (event ∷ below)
          (subst (AllByRecursion (IsEvent roster)) e are)).0 in
          let again = event_again roster event good.names_apart is in
          let left = subst (λ (es : List Event). length es ≤ 100000) e room in (
            rw (
              may_event above,
              again,
              is.named,
              lt-ltb (length above) 100000 (room_left above event below 100000 left),
            ) refl,
            ap (λ (o : Option Event). made (Some event_line) roster rows (with_some above o) false)
                again,
          )

      abbrev events_last : Option Kind
      events_last = last_of event_line (Some begin_line) events

      events_go : Goes (made (Some begin_line) roster rows [] false)
          (map (line_of_event roster) events) (made events_last roster rows events false)
      events_go = adds_go event_line (line_of_event roster) events_with (Some begin_line) [] events
          event_adds

      end_goes : Goes (made events_last roster rows events false) (line.End ∷ [])
          (made (Some end_line) roster rows events true)
      unfolding against
      end_goes =
          let then = made (Some end_line) roster rows events true in
          goes_cons (made events_last roster rows events false) line.End then [] then
          (rw (may_end events) refl) refl (goes_none then)

-- ---- all of it

version_goes : Goes (facts []) (line.Version ∷ [])
    (made (Some version_line) (no_roster Clear) [] [] false)
unfolding against
version_goes =
    let then = made (Some version_line) (no_roster Clear) [] [] false in
    goes_cons (facts []) line.Version then [] then refl refl (goes_none then)

script_goes : (script : ScriptView) → IsScript script
    → Goes (facts []) (script_lines script)
    (made (Some end_line) script.roster script.rows script.events true)
script_goes script good =
    let roster = script.roster in
    let rows = script.rows in
    let events = script.events in
    let first = facts [] in
    let version = line.Version ∷ [] in
    let sealing = lines_of_sealing roster.sealing in
    let levels = map line_of_level roster.levels in
    let keys = lines_of_keys roster in
    let hosts = map (line_of_host roster) roster.hosts in
    let plan = map (line_of_row roster) rows in
    let begin = line.Begin ∷ [] in
    let happens = map (line_of_event roster) events in
    let some = good.complete.some in
    let a = goes_append first version _ sealing _ version_goes (sealing_goes roster.sealing) in
    let b = goes_append first (version ++ sealing) _ levels _ a (levels_go roster good.roster some)
    in
    let c = goes_append first (version ++ sealing ++ levels) _ keys _ b
    (keys_go roster good.roster good.complete) in
    let d = goes_append first (version ++ sealing ++ levels ++ keys) _ hosts _ c
    (hosts_go roster good.roster) in
    let e = goes_append first (version ++ sealing ++ levels ++ keys ++ hosts) _ plan _ d
    (rows_go roster good.roster rows good.rows good.row_room) in
    let f = goes_append first (version ++ sealing ++ levels ++ keys ++ hosts ++ plan) _ begin _ e
    (begin_goes roster good.roster rows good.rows good.row_room) in
    let g = goes_append first (version ++ sealing ++ levels ++ keys ++ hosts ++ plan ++ begin) _
    happens _ f
    (events_go roster good.roster rows good.rows good.row_room events good.events good.room) in
    goes_append first (version ++ sealing ++ levels ++ keys ++ hosts ++ plan ++ begin ++ happens) _
    (line.End ∷ []) _ g
    (end_goes roster good.roster rows good.rows good.row_room events good.events good.room)

pub reads_again : ScriptsReadAgain
unfolding text_of
reads_again script good spelled short =
    let all = script_lines script in
    let read = goes_read all (made (Some end_line) script.roster script.rows script.events true)
    (script_goes script good) in
    record {
      short = short;
      lines = all;
      read = record {
        spelled = sym (append-nil (flat_map ended_text all));
        ranges = script_ranges script good spelled;
        free = read.free;
      };
      ended = ap (λ (f : Facts). f.ended) read.says;
      says = ap said_by (sym read.says);
    }
