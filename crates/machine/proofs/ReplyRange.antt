-- Every reply has its fields in their ranges.
use Rattle.std.proofs.Common.{◌≡◌, ℕ, zero, suc, ◌+◌, ◌<◌, ◌≤◌, List, [], ◌∷◌, ◌&&◌, length, Bool, true, false, Option, Some, None, refl, sym, ap, subst, ◌∙◌, inl, inr, arith}
use Rattle.std.specs.Prelude.{slice_get, nat_le, nat_lt, if◌then◌else◌, ◌-◌, ◌^◌}
use Rattle.std.specs.Option.{option_map}
use Rattle.std.specs.List.{AllByRecursion, list_all}
use Rattle.std.specs.Map.{keys_of}
use Rattle.std.specs.Ordering.{is_lt}
use Rattle.std.proofs.lemmas.Bool.Decides.{nat_tests}
use Rattle.std.proofs.lemmas.Option.{slice_get_within}
use Rattle.levels.specs.Rosters.{RosterView}
use Rattle.file_calls.specs.declared.call.Call.{Call}
use Rattle.file_calls.specs.declared.call.Call.TheVariants.{Put, Append, Get, GetBlock, List as ListNames, Remove}
use Rattle.file_calls.specs.declared.call.Reply.{Reply}
use Rattle.file_calls.specs.declared.call.Reply.TheVariants.{Bytes, Block, Removed, Names}
use Rattle.file_calls.specs.Names.{is_name, is_content, are_rising, is_name_list}
use Rattle.file_calls.specs.Spelling.{is_version, is_reply, call_of}
use Rattle.untrusted_store.specs.declared.plan.StoreAction.{StoreAction}
use Rattle.machine.specs.Setup.{Setup}
use Rattle.machine.specs.Files.{CallRow, Directory, Write, Writing, written, versions_of, writing_of, takes_name, appended, writing, files}
use Rattle.machine.specs.Replies.{Question, Sight, sight, is_below, write_reply, if_below, if_there, if_within, get_reply, get_block_reply, reply_with}
use Rattle.machine.specs.Plan.{question_of, next_action, is_intact, current_content, intact_content, reply}
use Rattle.machine.proofs.Basics.{bool_cases}
use Rattle.machine.proofs.Directories.{AreRising, found_entry}
use Rattle.machine.proofs.FilesRange.{IsFile, HoldContents, in_range}
use Rattle.machine.proofs.Written.{stands_written}

-- ---- the names of a level

length-keys_of : (names : Directory) → length (keys_of names) ≡ length names
length-keys_of [] = refl
length-keys_of (entry ∷ names) = ap suc (length-keys_of names)

are_names : (names : Directory) → AllByRecursion IsFile names → list_all is_name (keys_of names) ≡ true
are_names [] all = refl
are_names (entry ∷ names) all = rw (all.0.name, are_names names all.1) refl

keys_rise : (names : Directory) → AreRising names → are_rising (keys_of names) ≡ true
keys_rise [] rising = refl
keys_rise (entry ∷ []) rising = refl
keys_rise (entry ∷ next ∷ names) rising =
    rw (ap is_lt rising.0.0, keys_rise (next ∷ names) rising.1) refl

-- all that a reply tells of the names of a level
record NamesFit (names : Directory) : Type 0 where
  room : length names ≤ 128
  rising : AreRising names
  entries : AllByRecursion IsFile names
  versions : (name versions : List ℕ) (k v : ℕ) → versions_of name names ≡ Some versions
      → slice_get versions k ≡ Some v → v < 2 ^ 64

is_list : (names : Directory) → NamesFit names → is_name_list (keys_of names) ≡ true
is_list names fit =
    let count = length-keys_of names in
    let few = fit.room in
    let room : length (keys_of names) ≤ 128 = omega (arith, count, few) in
    let short : nat_le (length (keys_of names)) 128 ≡ true = grind (arith, nat_tests) in
    rw (short, are_names names fit.entries, keys_rise names fit.rising) refl

version_below : (writes : List Write) (v : ℕ) (w : Write) → length writes < 2 ^ 56
    → written writes v ≡ Some w → v < 2 ^ 64
version_below writes zero w few is = omega arith
version_below writes (suc v) w few is =
    let within = slice_get_within writes v w is in omega (arith, within, few)

names_fit : (level : ℕ) (before : List CallRow) → NamesFit (files level before).names
names_fit level before = record {
  room = (in_range level before).room;
  rising = (in_range level before).rising;
  entries = (in_range level before).entries;
  versions = λ name versions k v there at_block.
      (let t = stands_written level before name versions there k v at_block in
      version_below (files level before).writes v (record { name = name; block = k; content = t.0 })
      (in_range level before).drawn t.1);
}

-- ---- replies

is_version_of : (v : ℕ) → v < 2 ^ 64 → is_version v ≡ true
is_version_of v lt = grind (arith, nat_tests)

next_of : (name front content : List ℕ) (o : Option ℕ) (w : Writing)
    → option_map (writing_of name front content) o ≡ Some w → o ≡ Some w.version
next_of name front content None w is = cc
next_of name front content (Some version) w is =
    let same : writing_of name front content version ≡ w = cc in ap (λ (x : Writing). Some x.version) same

if_next : (b : Bool) (name front content : List ℕ) (next : Option ℕ) (w : Writing)
    → (if b then option_map (writing_of name front content) next else None) ≡ Some w → next ≡ Some w.version
if_next true name front content next w is = next_of name front content next w is
if_next false name front content next w is = cc

appended_next : (name content : List ℕ) (next : Option ℕ) (o : Option (List ℕ)) (w : Writing)
    → appended name content next o ≡ Some w → next ≡ Some w.version
appended_next name content next None w is = cc
appended_next name content next (Some front) w is =
    if_next (nat_lt (length front) 64) name front content next w is

writes_next : (next : Option ℕ) (names : Directory) (call : Call) (w : Writing)
    → writing next names call ≡ Some w → next ≡ Some w.version
unfolding writing
writes_next next names (Put name content) w is = if_next (takes_name names name) name [] content next w is
writes_next next names (Append name content) w is =
    appended_next name content next (versions_of name names) w is
writes_next next names (Get level name) w is = cc
writes_next next names (GetBlock level name block) w is = cc
writes_next next names (ListNames level) w is = cc
writes_next next names (Remove name) w is = cc

-- what a call sees of the files is in range
record SightFits (s : Sight) : Type 0 where
  next : (v : ℕ) → s.next ≡ Some v → v < 2 ^ 64
  below : (level : ℕ) (names : Directory) → s.below level ≡ Some names → NamesFit names

write_in_range : (s : Sight) (call : Call) (o : Option Writing) → SightFits s
    → writing s.next s.own call ≡ o → is_reply (write_reply o) ≡ true
write_in_range s call None fits is = refl
write_in_range s call (Some w) fits is =
    is_version_of w.version (fits.next w.version (writes_next s.next s.own call w is))

there_in_range : (o : Option (List ℕ)) (r : Reply) → is_reply r ≡ true
    → is_reply (if_there o (λ versions. r)) ≡ true
there_in_range None r good = refl
there_in_range (Some versions) r good = good

names_in_range : (s : Sight) (level : ℕ) (o : Option Directory) → SightFits s → s.below level ≡ o
    → is_reply (if_below o (λ names. Names (keys_of names))) ≡ true
names_in_range s level None fits is = refl
names_in_range s level (Some names) fits is = is_list names (fits.below level names is)

count_in_range : (n : ℕ) → 1 ≤ n → n ≤ 64 → (nat_le 1 n && nat_le n 64) ≡ true
count_in_range n least most = grind (arith, nat_tests)

abbrev HoldsContent : Option (List ℕ) → Type 0
HoldsContent opened = (content : List ℕ) → opened ≡ Some content → is_content content ≡ true

-- a content that is found under a version of a file's block
block_in_range : (found : ℕ → List ℕ → Reply) (opened : Option (List ℕ)) (count : ℕ) (o : Option ℕ)
    → ((v : ℕ) (content : List ℕ) → v < 2 ^ 64 → is_content content ≡ true → is_reply (found v content) ≡ true)
    → ((v : ℕ) → o ≡ Some v → v < 2 ^ 64) → HoldsContent opened → 1 ≤ count → count ≤ 64
    → is_reply (if_within found opened count o) ≡ true
block_in_range found opened count None fine version holds least most = count_in_range count least most
block_in_range found None count (Some v) fine version holds least most = is_version_of v (version v refl)
block_in_range found (Some content) count (Some v) fine version holds least most =
    fine v content (version v refl) (holds content refl)

get_in_range : (names : Directory) (name : List ℕ) (opened : Option (List ℕ)) (o : Option (List ℕ))
    → NamesFit names → HoldsContent opened → versions_of name names ≡ o
    → is_reply (if_there o (get_reply opened)) ≡ true
get_in_range names name opened None fit holds is = refl
get_in_range names name opened (Some versions) fit holds is =
    let file = found_entry IsFile names name versions fit.entries is in
    block_in_range Bytes opened (length versions) (slice_get versions 0)
    (λ v content lt good. rw (is_version_of v lt, good) refl)
    (λ v there. fit.versions name versions 0 v is there) holds file.some file.few

get_block_in_range : (names : Directory) (name : List ℕ) (block : ℕ) (opened : Option (List ℕ)) (o : Option (List ℕ))
    → NamesFit names → HoldsContent opened → versions_of name names ≡ o
    → is_reply (if_there o (get_block_reply opened block)) ≡ true
get_block_in_range names name block opened None fit holds is = refl
get_block_in_range names name block opened (Some versions) fit holds is =
    let file = found_entry IsFile names name versions fit.entries is in
    let count = count_in_range (length versions) file.some file.few in
    block_in_range (λ v content. Block v (length versions) content) opened (length versions)
    (slice_get versions block) (λ v content lt good. rw (is_version_of v lt, good, count) refl)
    (λ v there. fit.versions name versions block v is there) holds file.some file.few

below_in_range : (s : Sight) (level : ℕ) (o : Option Directory) (reply : Directory → Reply)
    → SightFits s → s.below level ≡ o
    → ((names : Directory) → NamesFit names → is_reply (reply names) ≡ true)
    → is_reply (if_below o reply) ≡ true
below_in_range s level None reply fits is fine = refl
below_in_range s level (Some names) reply fits is fine = fine names (fits.below level names is)

reply_with_in_range : (s : Sight) (opened : Option (List ℕ)) (o : Option Call)
    → SightFits s → HoldsContent opened → is_reply (reply_with s opened o) ≡ true
unfolding reply_with
reply_with_in_range s opened None fits holds = refl
reply_with_in_range s opened (Some (Put name content)) fits holds =
    write_in_range s (Put name content) (writing s.next s.own (Put name content)) fits refl
reply_with_in_range s opened (Some (Append name content)) fits holds =
    there_in_range (versions_of name s.own) (write_reply (writing s.next s.own (Append name content)))
    (write_in_range s (Append name content) (writing s.next s.own (Append name content)) fits refl)
reply_with_in_range s opened (Some (Get level name)) fits holds =
    below_in_range s level (s.below level) (λ names. if_there (versions_of name names) (get_reply opened))
    fits refl (λ names fit. get_in_range names name opened (versions_of name names) fit holds refl)
reply_with_in_range s opened (Some (GetBlock level name block)) fits holds =
    below_in_range s level (s.below level)
    (λ names. if_there (versions_of name names) (get_block_reply opened block)) fits refl
    (λ names fit. get_block_in_range names name block opened (versions_of name names) fit holds refl)
reply_with_in_range s opened (Some (ListNames level)) fits holds =
    names_in_range s level (s.below level) fits refl
reply_with_in_range s opened (Some (Remove name)) fits holds =
    there_in_range (versions_of name s.own) Removed refl

-- ---- what a call sees

next_below : (b : Bool) (drawn v : ℕ) → drawn < 2 ^ 56 → (if b then Some (drawn + 1) else None) ≡ Some v → v < 2 ^ 64
next_below true drawn v few is = let same : drawn + 1 ≡ v = cc in omega (arith, few, same)
next_below false drawn v few is = cc

if_seen : (b : Bool) (names seen : Directory) → NamesFit names → (if b then Some names else None) ≡ Some seen
    → NamesFit seen
if_seen true names seen fit is = let same : names ≡ seen = cc in subst NamesFit same fit
if_seen false names seen fit is = cc

sight_fits : (roster : RosterView) (p : ℕ) (before : List CallRow) → SightFits (sight roster p before)
sight_fits roster p before = record {
  next = λ v is.
      next_below (nat_lt (length (files p before).writes) (2 ^ 56 - 1)) (length (files p before).writes) v
      (in_range p before).drawn is;
  below = λ level names is.
      if_seen (is_below roster level p) (files level before).names names (names_fit level before) is;
}

content_there : (writes : List Write) (k : ℕ) (w : Write) → HoldContents writes → slice_get writes k ≡ Some w
    → is_content w.content ≡ true
content_there [] k w all is = cc
content_there (x ∷ writes) zero w all is =
    let same : x ≡ w = cc in
    ap (λ (y : Write). is_content y.content) (sym same) ∙ all.0
content_there (x ∷ writes) (suc k) w all is = content_there writes k w all.1 is

pub written_content : (writes : List Write) (v : ℕ) (o : Option Write) (content : List ℕ) → HoldContents writes
    → written writes v ≡ o → option_map (λ (w : Write). w.content) o ≡ Some content → is_content content ≡ true
written_content writes v None content all is h = cc
written_content writes zero (Some w) content all is h = cc
written_content writes (suc v) (Some w) content all is h =
    let same : w.content ≡ content = cc in ap is_content (sym same) ∙ content_there writes v w all is

intact_holds : (action : StoreAction) (before : List CallRow) (o : Option Question)
    → HoldsContent (intact_content action before o)
intact_holds action before None = λ content is. cc
intact_holds action before (Some question) = λ content is. elim (bool_cases (is_intact action question)) [
  | inl intact ↦
      (let found : current_content before question ≡ Some content = rw intact at is in
      written_content (files question.level before).writes question.version
      (written (files question.level before).writes question.version) content
      (in_range question.level before).contents refl found)
  | inr damaged ↦ (let t = rw damaged at is in cc)
]

-- every reply is in range
pub reply_in_range : (m : Setup) (before : List CallRow) (c : CallRow) → is_reply (reply m before c) ≡ true
unfolding reply
reply_in_range m before c =
    reply_with_in_range (sight m.roster c.level before)
    (intact_content (next_action m before c.level) before (question_of m.roster before c)) (call_of c.message)
    (sight_fits m.roster c.level before)
    (intact_holds (next_action m before c.level) before (question_of m.roster before c))
