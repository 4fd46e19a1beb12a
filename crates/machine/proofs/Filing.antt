-- How calls change the files of a level: by writes that are accepted and by removals.
use Rattle.std.proofs.Common.{◌≡◌, ℕ, ◌+◌, ◌<◌, List, [], ◌∷◌, length, Bool, true, false, Option, Some, None, refl, subst, ◌⊎◌, inl, inr, arith}
use Rattle.std.specs.Prelude.{if◌then◌else◌, ◌==◌, nat_lt, ◌-◌, ◌^◌}
use Rattle.std.specs.Option.{option_map}
use Rattle.std.proofs.lemmas.Bool.Decides.{nat_tests}
use Rattle.file_calls.specs.declared.call.Call.{Call}
use Rattle.file_calls.specs.declared.call.Call.TheVariants.{Put, Append, Get, GetBlock, List as ListNames, Remove}
use Rattle.file_calls.specs.Names.{is_name, is_content}
use Rattle.file_calls.specs.Spelling.{is_call, call_of}
use Rattle.file_calls.specs.SpellingLaws.{call_text-call_of}
use Rattle.machine.specs.Files.{CallRow, versions_of, Files, Writing, next_version, writing_of, takes_name, appended, writing, with_writing, change, files}
use Rattle.machine.proofs.Basics.{bool_cases, both}

-- a write that is accepted: it draws the next version, and stands alone or behind versions that stand
pub record Draws (files : Files) (w : Writing) : Type 0 where
  pub version : w.version ≡ length files.writes + 1
  pub few : length files.writes < 2 ^ 56 - 1
  pub front : (w.front ≡ []) ⊎ (versions_of w.name files.names ≡ Some w.front)
  pub short : length w.front < 64
  pub room : takes_name files.names w.name ≡ true
  pub name : is_name w.name ≡ true
  pub content : is_content w.content ≡ true

next_is : (below : Bool) (n v : ℕ) → (if below then Some (n + 1) else None) ≡ Some v
    → (below ≡ true) × (v ≡ n + 1)
next_is true n v is = (refl, cc)
next_is false n v is = cc

-- where a write of this name and content, behind these versions, would be accepted
record IsReady (files : Files) (name front content : List ℕ) : Type 0 where
  front_is : (front ≡ []) ⊎ (versions_of name files.names ≡ Some front)
  short : length front < 64
  room : takes_name files.names name ≡ true
  is_name : is_name name ≡ true
  is_content : is_content content ≡ true

made_of : (files : Files) (name front content : List ℕ) (o : Option ℕ) (w : Writing)
    → IsReady files name front content → next_version (length files.writes) ≡ o
    → option_map (writing_of name front content) o ≡ Some w → Draws files w
made_of files name front content None w ready next is = cc
made_of files name front content (Some version) w ready next is =
    let same : writing_of name front content version ≡ w = cc in
    let drawn = next_is (nat_lt (length files.writes) (2 ^ 56 - 1)) (length files.writes) version next in
    let few : length files.writes < 2 ^ 56 - 1 = grind (arith, nat_tests, drawn.0) in
    subst (λ (x : Writing). Draws files x) same (record {
      version = drawn.1;
      few = few;
      front = ready.front_is;
      short = ready.short;
      room = ready.room;
      name = ready.is_name;
      content = ready.is_content;
    })

appends : (files : Files) (name content : List ℕ) (o : Option (List ℕ)) (w : Writing)
    → is_name name ≡ true → is_content content ≡ true → versions_of name files.names ≡ o
    → appended name content (next_version (length files.writes)) o ≡ Some w → Draws files w
appends files name content None w named held there is = cc
appends files name content (Some versions) w named held there is =
    elim (bool_cases (nat_lt (length versions) 64)) [
      | inl room ↦
          (let ready : IsReady files name versions content = record {
            front_is = inr there;
            short = grind (arith, nat_tests);
            room = rw there refl;
            is_name = named;
            is_content = held;
          } in
          made_of files name versions content (next_version (length files.writes)) w ready refl
          (rw room at is))
      | inr full ↦ (let t = rw full at is in cc)
    ]

pub draws : (files : Files) (call : Call) (w : Writing) → is_call call ≡ true
    → writing (next_version (length files.writes)) files.names call ≡ Some w → Draws files w
unfolding writing
draws files (Put name content) w good is =
    let fields = both (is_name name) (is_content content) good in
    elim (bool_cases (takes_name files.names name)) [
      | inl room ↦
          (let ready : IsReady files name [] content = record {
            front_is = inl refl;
            short = omega arith;
            room = room;
            is_name = fields.0;
            is_content = fields.1;
          } in
          made_of files name [] content (next_version (length files.writes)) w ready refl (rw room at is))
      | inr full ↦ (let t = rw full at is in cc)
    ]
draws files (Append name content) w good is =
    let fields = both (is_name name) (is_content content) good in
    appends files name content (versions_of name files.names) w fields.0 fields.1 refl is
draws files (Get level name) w good is = cc
draws files (GetBlock level name block) w good is = cc
draws files (ListNames level) w good is = cc
draws files (Remove name) w good is = cc

-- what holds of no files, and stays under a write that is accepted and under a removal
pub record Stays (P : Files → Type 0) : Type 0 where
  pub none : P (record { writes = []; names = [] })
  pub write : (files : Files) (w : Writing) → Draws files w → P files → P (with_writing (Some w) files)
  pub remove : (files : Files) (name : List ℕ) → P files → P (change (Some (Remove name)) files)

stays_with : (P : Files → Type 0) → Stays P → (files : Files) (call : Call) (o : Option Writing)
    → is_call call ≡ true → writing (next_version (length files.writes)) files.names call ≡ o → P files
    → P (with_writing o files)
stays_with P stays files call None good is holds = holds
stays_with P stays files call (Some w) good is holds =
    stays.write files w (draws files call w good is) holds

abbrev written_by : Files → Call → Option Writing
written_by files call = writing (next_version (length files.writes)) files.names call

stays_change : (P : Files → Type 0) → Stays P → (files : Files) (bytes : List ℕ) (o : Option Call)
    → call_of bytes ≡ o → P files → P (change o files)
stays_change P stays files bytes None is holds = holds
stays_change P stays files bytes (Some (Remove name)) is holds = stays.remove files name holds
stays_change P stays files bytes (Some (Put name content)) is holds =
    stays_with P stays files (Put name content) (written_by files (Put name content))
    (call_text-call_of bytes (Put name content) is).0 refl holds
stays_change P stays files bytes (Some (Append name content)) is holds =
    stays_with P stays files (Append name content) (written_by files (Append name content))
    (call_text-call_of bytes (Append name content) is).0 refl holds
stays_change P stays files bytes (Some (Get level name)) is holds =
    stays_with P stays files (Get level name) (written_by files (Get level name))
    (call_text-call_of bytes (Get level name) is).0 refl holds
stays_change P stays files bytes (Some (GetBlock level name block)) is holds =
    stays_with P stays files (GetBlock level name block) (written_by files (GetBlock level name block))
    (call_text-call_of bytes (GetBlock level name block) is).0 refl holds
stays_change P stays files bytes (Some (ListNames level)) is holds =
    stays_with P stays files (ListNames level) (written_by files (ListNames level))
    (call_text-call_of bytes (ListNames level) is).0 refl holds

-- then it holds of the files of every level after all calls
pub stays_through : (P : Files → Type 0) → Stays P → (level : ℕ) (cs : List CallRow) → P (files level cs)
stays_through P stays level [] = stays.none
stays_through P stays level (c ∷ before) =
    let holds = stays_through P stays level before in
    elim (bool_cases (c.level == level)) [
      | inl own ↦ rw own (stays_change P stays (files level before) c.message (call_of c.message) refl holds)
      | inr other ↦ rw other holds
    ]
