-- One more line: what the lines say then.
use Rattle.std.proofs.Common.{◌≡◌, ℕ, Bool, true, false, ◌||◌, cond, List, [], ◌∷◌, ◌++◌, Option, Some, None, refl, sym, ap, ◌∙◌}
use Rattle.std.specs.Prelude.{filter_map}
use Rattle.std.specs.List.{list_any, cons_option}
use Rattle.std.proofs.lemmas.List.{append-nil}
use Rattle.std.proofs.lemmas.List.Elements.{filter_map-append}
use Rattle.std.proofs.lemmas.List.Folds.{list_any-append}
use Rattle.seal_core.specs.declared.KeyPair.{KeyPair}
use Rattle.levels.specs.declared.level.Sealing.{Sealing}
use Rattle.levels.specs.declared.level.Sealing.TheVariants.{Clear, Des}
use Rattle.levels.specs.declared.level.Partition.{Partition}
use Rattle.levels.specs.declared.level.Level.{Level}
use Rattle.levels.specs.declared.rows.LevelRow.{LevelRow}
use Rattle.levels.specs.Rosters.{RosterView, level_named}
use Rattle.untrusted_store.specs.declared.plan.PlanRow.{PlanRow}
use Rattle.events.specs.declared.event.Event.{Event}
use Rattle.script.specs.Lines.{EventWords, StoreWords, Line}
use Rattle.script.specs.Lines as line
use Rattle.script.specs.Naming.{◌>>=◌}
use Rattle.script.specs.Naming.{either}
use Rattle.script.specs.Facts.{Kind, kind_of, last_kind, is_seal, is_end, as_level, as_pair, as_guard, as_host, as_row, as_event, levels_of, names_of, pairs_said, guard_said, Facts, facts}
use Rattle.script.specs.inside.Stages.{with_some, host_added, after}

last_push : (lines : List Line) (next : Line) → last_kind (lines ++ next ∷ []) ≡ Some (kind_of next)
last_push [] next = refl
last_push (first ∷ lines) next = rw (last_push lines next) refl

with_option : {A : Type 0} (xs : List A) (o : Option A) → xs ++ cons_option o [] ≡ with_some xs o
with_option xs None = append-nil xs
with_option xs (Some x) = refl

filter_map_push : {A : Type 0} (f : Line → Option A) (lines : List Line) (next : Line)
    → filter_map f (lines ++ next ∷ []) ≡ with_some (filter_map f lines) (f next)
filter_map_push f lines next = filter_map-append f lines (next ∷ [])
    ∙ with_option (filter_map f lines) (f next)

or_false : (b : Bool) → (b || false) ≡ b
or_false true = refl
or_false false = refl

or_true : (b : Bool) → (b || true) ≡ true
or_true true = refl
or_true false = refl

any_push : (p : Line → Bool) (lines : List Line) (next : Line)
    → list_any p (lines ++ next ∷ []) ≡ (list_any p lines || p next)
any_push p lines next = list_any-append p lines (next ∷ [])
    ∙ ap (λ (b : Bool). list_any p lines || b) (or_false (p next))

either_none : {A : Type 0} (o : Option A) → either o None ≡ o
either_none None = refl
either_none (Some x) = refl

either_again : {A : Type 0} (a b d : Option A) → either (either a b) d ≡ either a (either b d)
either_again None b d = refl
either_again (Some x) b d = refl

guard_push : (lines : List Line) (next : Line)
    → guard_said (lines ++ next ∷ []) ≡ either (as_guard next) (guard_said lines)
guard_push [] next = sym (either_none (as_guard next))
guard_push (first ∷ lines) next =
    rw (guard_push lines next) (either_again (as_guard next) (guard_said lines) (as_guard first))

-- whatever the roster, no line is that of a host, of a row of the plan, or of an event
abbrev pub NoHosts : List Line → Type 0
NoHosts lines = (roster : RosterView) → filter_map (as_host roster) lines ≡ []

abbrev pub NoRows : List Line → Type 0
NoRows lines = (roster : RosterView) → filter_map (as_row roster) lines ≡ []

abbrev pub NoEvents : List Line → Type 0
NoEvents lines = (roster : RosterView) → filter_map (as_event roster) lines ≡ []

abbrev pub made : Option Kind → RosterView → List PlanRow → List Event → Bool → Facts
made last roster rows events ended =
    record { last = last; roster = roster; rows = rows; events = events; ended = ended }

abbrev pushed_levels : List Line → Line → List LevelRow
pushed_levels lines next = with_some (levels_of lines) (as_level next)

abbrev pushed_names : List Line → Line → RosterView
pushed_names lines next = names_of (pushed_levels lines next)

abbrev sealing_by : Bool → Sealing
sealing_by sealed = cond sealed Des Clear

abbrev pushed : List Line → Line → Facts
pushed lines next =
    let names = pushed_names lines next in
    record {
      last = Some (kind_of next);
      roster = record {
        sealing = sealing_by (list_any is_seal lines || is_seal next);
        levels = pushed_levels lines next;
        keys = with_some (pairs_said lines) (as_pair next);
        guard = either (as_guard next) (guard_said lines);
        hosts = with_some (filter_map (as_host names) lines) (as_host names next);
      };
      rows = with_some (filter_map (as_row names) lines) (as_row names next);
      events = with_some (filter_map (as_event names) lines) (as_event names next);
      ended = list_any is_end lines || is_end next;
    }

facts_push : (lines : List Line) (next : Line) → facts (lines ++ next ∷ []) ≡ pushed lines next
facts_push lines next =
    let names = pushed_names lines next in
    rw (
      last_push lines next,
      any_push is_seal lines next,
      filter_map_push as_level lines next,
      filter_map_push as_pair lines next,
      guard_push lines next,
      filter_map_push (as_host names) lines next,
      filter_map_push (as_row names) lines next,
      filter_map_push (as_event names) lines next,
      any_push is_end lines next,
    ) refl

abbrev Pushes : List Line → Line → Type 0
Pushes lines next = facts (lines ++ next ∷ []) ≡ after (facts lines) next

pub push_version : (lines : List Line) → Pushes lines line.Version
push_version lines = facts_push lines line.Version ∙ rw (or_false (list_any is_seal lines)) refl

pub push_seal : (lines : List Line) → Pushes lines line.Seal
push_seal lines = facts_push lines line.Seal ∙ rw (or_true (list_any is_seal lines)) refl

pub push_level : (lines : List Line) (name : List ℕ) (level : Level) → NoHosts lines → NoRows lines
    → NoEvents lines → Pushes lines (line.Level name level)
push_level lines name level hosts rows events =
    let next = line.Level name level in
    let old = names_of (levels_of lines) in
    let new = pushed_names lines next in
    facts_push lines next
    ∙ rw (
      or_false (list_any is_seal lines),
      hosts new,
      rows new,
      events new,
      hosts old,
      rows old,
      events old,
    ) refl

pub push_key : (lines : List Line) (level : List ℕ) (pair : KeyPair)
    → Pushes lines (line.Key level pair)
push_key lines level pair =
    facts_push lines (line.Key level pair) ∙ rw (or_false (list_any is_seal lines)) refl

pub push_guard : (lines : List Line) (pair : KeyPair) → Pushes lines (line.Guard pair)
push_guard lines pair =
    facts_push lines (line.Guard pair) ∙ rw (or_false (list_any is_seal lines)) refl

host_pushed : (roster : RosterView) (address : ℕ) (o : Option Partition)
    → record roster {
      hosts = with_some roster.hosts
          (o >>= λ partition. Some (record { address = address; partition = partition }));
    } ≡ host_added roster address o
host_pushed roster address None = refl
host_pushed roster address (Some partition) = refl

pub push_host : (lines : List Line) (address : ℕ) (level : List ℕ)
    → Pushes lines (line.Host address level)
push_host lines address level =
    let so_far = facts lines in
    facts_push lines (line.Host address level)
    ∙ rw (or_false (list_any is_seal lines)) refl
    ∙ ap (λ (r : RosterView). made (Some (kind_of (line.Host address level))) r so_far.rows
    so_far.events (so_far.ended || false))
    (host_pushed so_far.roster address (level_named so_far.roster level))

pub push_store : (lines : List Line) (reader : List ℕ) (words : StoreWords)
    → Pushes lines (line.Store reader words)
push_store lines reader words =
    facts_push lines (line.Store reader words) ∙ rw (or_false (list_any is_seal lines)) refl

pub push_begin : (lines : List Line) → Pushes lines line.Begin
push_begin lines = facts_push lines line.Begin ∙ rw (or_false (list_any is_seal lines)) refl

pub push_event : (lines : List Line) (words : EventWords) → Pushes lines (line.Event words)
push_event lines words =
    facts_push lines (line.Event words) ∙ rw (or_false (list_any is_seal lines)) refl

pub push_end : (lines : List Line) → Pushes lines line.End
push_end lines = facts_push lines line.End ∙ rw (or_false (list_any is_seal lines)) refl
