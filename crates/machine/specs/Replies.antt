-- What a call is answered, where it is known what the store's answer opened to.
use Rattle.std.specs.Prelude.{ℕ, List, length, Bool, false, Option, None, Some, if◌then◌else◌, slice_get}
use Rattle.std.specs.Option.{option_map}
use Rattle.std.specs.Map.{keys_of}
use Rattle.levels.specs.declared.level.Level.{Level}
use Rattle.levels.specs.Order.{is_at_most}
use Rattle.levels.specs.Rosters.{RosterView, level_at}
use Rattle.file_calls.specs.declared.call.Call.{Call}
use Rattle.file_calls.specs.declared.call.Call.TheVariants.{Put, Append, Get, GetBlock, List as ListNames, Remove}
use Rattle.file_calls.specs.declared.call.Reply.{Reply}
use Rattle.file_calls.specs.declared.call.Reply.TheVariants.{Done, Bytes, Block, Refused, Missing, Damaged, Past, Full, Removed, Names, Bad}
use Rattle.machine.specs.Files.{CallRow, Directory, Writing, versions_of, next_version, writing, files}

abbrev pub are_at_most : Option Level → Option Level → Bool
are_at_most (Some x) (Some y) = is_at_most x y
are_at_most (Some x) None = false
are_at_most None y = false

-- whether level q is at or below level p, by number; an unknown number is at or below none
abbrev pub is_below : RosterView → ℕ → ℕ → Bool
is_below roster q p =
    are_at_most
    (level_at roster (Some (record { 0 = q })))
    (level_at roster (Some (record { 0 = p })))

-- all that the reply to a call of a level depends on: the level's own names, the version of its
-- next write, and the names of each level at or below it
pub record Sight : Type 0 where
  pub own : Directory
  pub next : Option ℕ
  pub below : ℕ → Option Directory

abbrev pub sight : RosterView → ℕ → List CallRow → Sight
sight roster p before = record {
  own = (files p before).names;
  next = next_version (length (files p before).writes);
  below = λ q. if is_below roster q p then Some (files q before).names else None;
}

-- a call is a question where it asks the store: for a block of a name of a level that it may read,
-- by the block's number and its current version
pub record Question : Type 0 where
  pub level : ℕ
  pub name : List ℕ
  pub block : ℕ
  pub version : ℕ

abbrev pub question_for : ℕ → List ℕ → ℕ → ℕ → Question
question_for level name block version =
    record { level = level; name = name; block = block; version = version }

abbrev pub block_version : Option (List ℕ) → ℕ → Option ℕ
block_version None block = None
block_version (Some versions) block = slice_get versions block

-- the question for a block of a name, where the level may be read and has the block
abbrev pub question_in : ℕ → List ℕ → ℕ → Option Directory → Option Question
question_in level name block None = None
question_in level name block (Some names) =
    option_map (question_for level name block) (block_version (versions_of name names) block)

-- the question that a call is, if it is one: a Get asks for block 0
unfoldable pub question_by : Sight → Option Call → Option Question
question_by s None = None
question_by s (Some (Get level name)) = question_in level name 0 (s.below level)
question_by s (Some (GetBlock level name block)) = question_in level name block (s.below level)
question_by s (Some call) = None

-- Done where a write is accepted, else Full
abbrev pub write_reply : Option Writing → Reply
write_reply None = Full
write_reply (Some w) = Done w.version

-- Refused where a level may not be read, else what its names give
abbrev pub if_below : Option Directory → (Directory → Reply) → Reply
if_below None reply = Refused
if_below (Some names) reply = reply names

-- Missing where there is no file, else what its versions give
abbrev pub if_there : Option (List ℕ) → (List ℕ → Reply) → Reply
if_there None reply = Missing
if_there (Some versions) reply = reply versions

-- what was found where the store's answer opened to a content, else Damaged
abbrev pub if_opened : (ℕ → List ℕ → Reply) → ℕ → Option (List ℕ) → Reply
if_opened found version None = Damaged version
if_opened found version (Some content) = found version content

-- Past where a file has no such block, else as the store's answer opened
abbrev pub if_within : (ℕ → List ℕ → Reply) → Option (List ℕ) → ℕ → Option ℕ → Reply
if_within found opened count None = Past count
if_within found opened count (Some version) = if_opened found version opened

abbrev pub get_reply : Option (List ℕ) → List ℕ → Reply
get_reply opened versions = if_within Bytes opened (length versions) (slice_get versions 0)

abbrev pub get_block_reply : Option (List ℕ) → ℕ → List ℕ → Reply
get_block_reply opened block versions =
    if_within (λ version content. Block version (length versions) content)
    opened (length versions) (slice_get versions block)

-- the reply to a message; opened is what the store's answer opened to, if it opened as the block
-- that the call asks for
unfoldable pub reply_with : Sight → Option (List ℕ) → Option Call → Reply
reply_with s opened None = Bad
reply_with s opened (Some (Put name content)) =
    write_reply (writing s.next s.own (Put name content))
reply_with s opened (Some (Append name content)) =
    if_there (versions_of name s.own)
    (λ versions. write_reply (writing s.next s.own (Append name content)))
reply_with s opened (Some (Get level name)) =
    if_below (s.below level) (λ names. if_there (versions_of name names) (get_reply opened))
reply_with s opened (Some (GetBlock level name block)) =
    if_below (s.below level)
    (λ names. if_there (versions_of name names) (get_block_reply opened block))
reply_with s opened (Some (ListNames level)) =
    if_below (s.below level) (λ names. Names (keys_of names))
reply_with s opened (Some (Remove name)) = if_there (versions_of name s.own) (λ versions. Removed)
