-- The records in the store follow the calls.
use Rattle.std.proofs.Common.{◌≡◌, ℕ, zero, suc, ◌+◌, List, [], ◌∷◌, ◌++◌, length, Bool, true, false, Option, None, Some, refl, sym, ◌∙◌, ap, inl, inr, arith}
use Rattle.std.specs.Prelude.{if◌then◌else◌, ◌==◌, ◌&&◌, ◌-◌, ◌^◌, nat_lt, slice_get}
use Rattle.std.specs.Option.{option_map}
use Rattle.std.proofs.lemmas.List.{append-nil}
use Rattle.std.proofs.lemmas.Bool.{eqb-true}
use Rattle.std.proofs.lemmas.Bool.Decides.{nat_tests}
use Rattle.levels.specs.declared.level.Party.{Party}
use Rattle.levels.specs.Rosters.{RosterView}
use Rattle.guarantor.specs.Records.{record_of}
use Rattle.untrusted_store.specs.declared.slot.Slot.{Slot}
use Rattle.untrusted_store.specs.Telling.{with_put}
use Rattle.file_calls.specs.declared.call.Call.{Call}
use Rattle.file_calls.specs.declared.call.Call.TheVariants.{Put, Append, Get, GetBlock, List as ListNames, Remove}
use Rattle.file_calls.specs.Spelling.{call_of}
use Rattle.machine.specs.Setup.{Setup}
use Rattle.machine.specs.Files.{CallRow, Directory, Write, Files, Writing, written, versions_of, next_version, writing_of, takes_name, appended, writing, write_of, with_writing, change, files}
use Rattle.machine.specs.Replies.{sight}
use Rattle.machine.specs.Plan.{records}
use Rattle.file_manager.specs.Effects.{writing_by, last_after}
use Rattle.planned_files.proofs.Options.{bool_cases}

-- ---- what a message writes

abbrev pub added : Option Writing → List Write
added None = []
added (Some w) = write_of w ∷ []

with_added : (o : Option Writing) (fs : Files) → (with_writing o fs).writes ≡ fs.writes ++ added o
with_added None fs = sym (append-nil fs.writes)
with_added (Some w) fs = refl

change_writes : (roster : RosterView) (calls : List CallRow) (p : ℕ) (o : Option Call)
    → (change o (files p calls)).writes ≡ (files p calls).writes ++ added (writing_by (sight roster p calls) o)
unfolding writing
change_writes roster calls p None = sym (append-nil (files p calls).writes)
change_writes roster calls p (Some (Put name content)) =
    with_added (writing_by (sight roster p calls) (Some (Put name content))) (files p calls)
change_writes roster calls p (Some (Append name content)) =
    with_added (writing_by (sight roster p calls) (Some (Append name content))) (files p calls)
change_writes roster calls p (Some (Get level name)) = sym (append-nil (files p calls).writes)
change_writes roster calls p (Some (GetBlock level name block)) = sym (append-nil (files p calls).writes)
change_writes roster calls p (Some (ListNames level)) = sym (append-nil (files p calls).writes)
change_writes roster calls p (Some (Remove name)) = sym (append-nil (files p calls).writes)

-- ---- the version that it draws

next_of : (name front content : List ℕ) (o : Option ℕ) (w : Writing)
    → option_map (writing_of name front content) o ≡ Some w → o ≡ Some w.version
next_of name front content None w is = cc
next_of name front content (Some version) w is =
    let same : writing_of name front content version ≡ w = cc in ap (λ (x : Writing). Some x.version) same

if_next : (b : Bool) (name front content : List ℕ) (next : Option ℕ) (w : Writing)
    → (if b then option_map (writing_of name front content) next else None) ≡ Some w → next ≡ Some w.version
if_next true name front content next w is = next_of name front content next w is
if_next false name front content next w is = cc

appended_next : (name content : List ℕ) (next : Option ℕ) (o : Option (List ℕ)) (w : Writing)
    → appended name content next o ≡ Some w → next ≡ Some w.version
appended_next name content next None w is = cc
appended_next name content next (Some front) w is =
    if_next (nat_lt (length front) 64) name front content next w is

writes_next : (next : Option ℕ) (names : Directory) (call : Call) (w : Writing)
    → writing next names call ≡ Some w → next ≡ Some w.version
unfolding writing
writes_next next names (Put name content) w is = if_next (takes_name names name) name [] content next w is
writes_next next names (Append name content) w is =
    appended_next name content next (versions_of name names) w is
writes_next next names (Get level name) w is = cc
writes_next next names (GetBlock level name block) w is = cc
writes_next next names (ListNames level) w is = cc
writes_next next names (Remove name) w is = cc

version_by : (b : Bool) (drawn v : ℕ) → (if b then Some (drawn + 1) else None) ≡ Some v → v ≡ drawn + 1
version_by true drawn v is = cc
version_by false drawn v is = cc

version_is : (roster : RosterView) (calls : List CallRow) (p : ℕ) (o : Option Call) (w : Writing)
    → writing_by (sight roster p calls) o ≡ Some w → w.version ≡ length (files p calls).writes + 1
version_is roster calls p None w is = cc
version_is roster calls p (Some call) w is =
    let drawn = length (files p calls).writes in
    version_by (nat_lt drawn (2 ^ 56 - 1)) drawn w.version
    (writes_next (next_version drawn) (files p calls).names call w is)

-- ---- what is written under each version

get_more : (xs : List Write) (x : Write) (i : ℕ)
    → slice_get (xs ++ x ∷ []) i ≡ (if length xs == i then Some x else slice_get xs i)
get_more [] x zero = refl
get_more [] x (suc i) = grind (arith, nat_tests)
get_more (y ∷ xs) x zero = grind (arith, nat_tests)
get_more (y ∷ xs) x (suc i) =
    let same : (length xs == i) ≡ (length (y ∷ xs) == suc i) = grind (arith, nat_tests) in
    get_more xs x i ∙ ap (λ b. if b then Some x else slice_get xs i) same

written_more : (writes : List Write) (w : Write) (version drawn : ℕ) → drawn ≡ length writes + 1
    → written (writes ++ w ∷ []) version ≡ (if drawn == version then Some w else written writes version)
written_more writes w zero drawn is =
    let test : false ≡ (drawn == 0) = grind (arith, nat_tests, is) in
    ap (λ b. if b then Some w else None) test
written_more writes w (suc v) drawn is =
    let test : (length writes == v) ≡ (drawn == suc v) = grind (arith, nat_tests, is) in
    get_more writes w v ∙ ap (λ b. if b then Some w else slice_get writes v) test

-- ---- the records

-- the record in a slot, where these were the writes of its level
abbrev record_in : Setup → Slot → List Write → Option (List ℕ)
record_in m slot writes = option_map
    (λ w. record_of m.sealed m.guard slot.level w.name w.block slot.version w.content)
    (written writes slot.version)

abbrev text_of : Setup → ℕ → Writing → List ℕ
text_of m p w = record_of m.sealed m.guard p w.name (length w.front) w.version w.content

record_more : (m : Setup) (p v : ℕ) (writes : List Write) (w : Writing) → w.version ≡ length writes + 1
    → record_in m (record { level = p; version = v }) (writes ++ write_of w ∷ [])
    ≡ (if w.version == v then Some (text_of m p w) else record_in m (record { level = p; version = v }) writes)
record_more m p v writes w is =
    let seal = option_map (λ (x : Write). record_of m.sealed m.guard p x.name x.block v x.content) in
    ap seal (written_more writes (write_of w) v w.version is)
    ∙ (elim (bool_cases (w.version == v)) [
      | inl here ↦
          (let same : v ≡ w.version = sym (eqb-true w.version v here) in
          rw here (ap (λ n. Some (record_of m.sealed m.guard p w.name (length w.front) n w.content)) same))
      | inr other ↦ rw other refl
    ])

-- the bytes put last, once a write of level p was accepted or none
records_by : (m : Setup) (calls : List CallRow) (p : ℕ) (o : Option Writing) (slot : Slot)
    → ((w : Writing) → o ≡ Some w → w.version ≡ length (files p calls).writes + 1)
    → (new old : Slot → Option (List ℕ)) → Some new ≡ last_after m.sealed m.guard p o (Some old)
    → old slot ≡ records m calls slot
    → new slot ≡ record_in m slot
    (if p == slot.level then (files p calls).writes ++ added o else (files slot.level calls).writes)
records_by m calls p None slot follow new old told kept =
    let same : new ≡ old = cc in
    let now : new slot ≡ records m calls slot = ap (λ (f : Slot → Option (List ℕ)). f slot) same ∙ kept in
    let writes = (files p calls).writes ++ [] in
    elim (bool_cases (p == slot.level)) [
      | inl here ↦
          now
          ∙ ap (record_in m slot)
          (ap (λ j. (files j calls).writes) (sym (eqb-true p slot.level here))
          ∙ sym (append-nil (files p calls).writes))
          ∙ sym (ap (λ b. record_in m slot (if b then writes else (files slot.level calls).writes)) here)
      | inr other ↦
          now ∙ sym (ap (λ b. record_in m slot (if b then writes else (files slot.level calls).writes)) other)
    ]
records_by m calls p (Some w) slot follow new old told kept =
    let text = text_of m p w in
    let put : Slot → Option (List ℕ) = with_put (record { level = p; version = w.version }) text old in
    let same : new ≡ put = cc in
    let now : new slot ≡ put slot = ap (λ (f : Slot → Option (List ℕ)). f slot) same in
    let writes = (files p calls).writes ++ write_of w ∷ [] in
    elim (bool_cases (p == slot.level)) [
      | inl here ↦
          (let level : p ≡ slot.level = eqb-true p slot.level here in
          now
          ∙ ap (λ b. if b && w.version == slot.version then Some text else old slot) here
          ∙ ap (λ x. if w.version == slot.version then Some text else x)
          (kept
          ∙ ap (λ j. record_in m (record { level = j; version = slot.version }) (files j calls).writes) (sym level))
          ∙ sym (record_more m p slot.version (files p calls).writes w (follow w refl))
          ∙ ap (λ j. record_in m (record { level = j; version = slot.version }) writes) level
          ∙ sym (ap (λ b. record_in m slot (if b then writes else (files slot.level calls).writes)) here))
      | inr other ↦
          now
          ∙ ap (λ b. if b && w.version == slot.version then Some text else old slot) other
          ∙ kept
          ∙ sym (ap (λ b. record_in m slot (if b then writes else (files slot.level calls).writes)) other)
    ]

writes_after : (roster : RosterView) (calls : List CallRow) (p q : ℕ) (o : Option Call)
    → (if p == q then change o (files q calls) else files q calls).writes
    ≡ (if p == q then (files p calls).writes ++ added (writing_by (sight roster p calls) o)
    else (files q calls).writes)
writes_after roster calls p q o = elim (bool_cases (p == q)) [
  | inl here ↦
      (let level : p ≡ q = eqb-true p q here in
      rw here (ap (λ j. (change o (files j calls)).writes) (sym level) ∙ change_writes roster calls p o))
  | inr other ↦ rw other refl
]

-- the store has the records of what was written, also after one call more
pub records_after : (m : Setup) (calls : List CallRow) (caller : Party) (p : ℕ) (message : List ℕ)
    (new old : Slot → Option (List ℕ))
    → Some new ≡ last_after m.sealed m.guard p (writing_by (sight m.roster p calls) (call_of message)) (Some old)
    → ((slot : Slot) → old slot ≡ records m calls slot)
    → (slot : Slot)
    → new slot ≡ records m (record { caller = caller; level = p; message = message } ∷ calls) slot
records_after m calls caller p message new old told kept slot =
    records_by m calls p (writing_by (sight m.roster p calls) (call_of message)) slot
    (version_is m.roster calls p (call_of message)) new old told (kept slot)
    ∙ ap (record_in m slot) (sym (writes_after m.roster calls p slot.level (call_of message)))
