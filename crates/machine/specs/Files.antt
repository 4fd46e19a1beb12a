-- The files of each level, read from the calls alone. Calls stand newest first.
use Rattle.std.specs.Prelude.{ℕ, zero, suc, ◌+◌, ◌-◌, ◌^◌, List, [], ◌∷◌, ◌++◌, length, Bool, ◌||◌, ◌==◌, nat_lt, Option, None, Some, is_some, if◌then◌else◌, slice_get}
use Rattle.std.specs.Option.{option_map}
use Rattle.std.specs.Map.{lookup, remove_entry}
use Rattle.std.specs.BTreeMap.{is_at, insert_entry}
use Rattle.levels.specs.declared.level.Party.{Party}
use Rattle.file_calls.specs.declared.call.Call.{Call}
use Rattle.file_calls.specs.declared.call.Call.TheVariants.{Put, Append, Remove}
use Rattle.file_calls.specs.Spelling.{call_of}
use Rattle.file_calls.specs.Names.{name_cmp}

-- a call: a message that was given to the manager unit of a level, and the party that sent it
pub record CallRow : Type 0 where
  pub caller : Party
  pub level : ℕ
  pub message : List ℕ

-- the names of a level in rising order of bytes, each with the versions of its blocks
abbrev pub Directory : Type 0
Directory = List (List ℕ × List ℕ)

abbrev pub versions_of : List ℕ → Directory → Option (List ℕ)
versions_of name names = lookup (is_at (name_cmp name)) names

-- a block that was written: of a name, with its number and its content
pub record Write : Type 0 where
  pub name : List ℕ
  pub block : ℕ
  pub content : List ℕ

-- all that was ever written at a level, the first under version 1, and the names that stand
pub record Files : Type 0 where
  pub writes : List Write
  pub names : Directory

-- what was written under a version
abbrev pub written : List Write → ℕ → Option Write
written writes zero = None
written writes (suc before) = slice_get writes before

-- the next version, while fewer than 2 ^ 56 - 1 are drawn
abbrev pub next_version : ℕ → Option ℕ
next_version drawn = if nat_lt drawn (2 ^ 56 - 1) then Some (drawn + 1) else None

-- a write that is accepted: its content, its version, and the versions in front of it in its file
pub record Writing : Type 0 where
  pub name : List ℕ
  pub front : List ℕ
  pub content : List ℕ
  pub version : ℕ

abbrev pub writing_of : List ℕ → List ℕ → List ℕ → ℕ → Writing
writing_of name front content version =
    record { name = name; front = front; content = content; version = version }

-- a name that stands may be put again, and a new one while there are fewer than 128
abbrev pub takes_name : Directory → List ℕ → Bool
takes_name names name = is_some (versions_of name names) || nat_lt (length names) 128

-- a file that stands gets one block more, while it has fewer than 64
abbrev pub appended : List ℕ → List ℕ → Option ℕ → Option (List ℕ) → Option Writing
appended name content next None = None
appended name content next (Some front) =
    if nat_lt (length front) 64 then option_map (writing_of name front content) next else None

-- what a call writes, where it is accepted, to a level with these names and this next version
unfoldable pub writing : Option ℕ → Directory → Call → Option Writing
writing next names (Put name content) =
    if takes_name names name then option_map (writing_of name [] content) next else None
writing next names (Append name content) = appended name content next (versions_of name names)
writing next names call = None

abbrev pub write_of : Writing → Write
write_of w = record { name = w.name; block = length w.front; content = w.content }

-- the files after a write
abbrev pub with_writing : Option Writing → Files → Files
with_writing None files = files
with_writing (Some w) files = record {
  writes = files.writes ++ write_of w ∷ [];
  names = insert_entry name_cmp files.names w.name (w.front ++ w.version ∷ []);
}

-- the files after a call of their level: a Remove or a write that is accepted changes them
abbrev pub change : Option Call → Files → Files
change None files = files
change (Some (Remove name)) files =
    record { writes = files.writes; names = remove_entry (is_at (name_cmp name)) files.names }
change (Some call) files =
    with_writing (writing (next_version (length files.writes)) files.names call) files

-- the files of a level after these calls
abbrev pub files : ℕ → List CallRow → Files
files level [] = record { writes = []; names = [] }
files level (c ∷ before) =
    if c.level == level then change (call_of c.message) (files level before) else files level before
