-- The files of every level keep their limits.
use Rattle.std.proofs.Common.{◌≡◌, ℕ, ◌+◌, ◌<◌, ◌≤◌, List, [], ◌∷◌, ◌++◌, ◌||◌, length, Bool, true, false, Some, arith, length-append}
use Rattle.std.specs.Prelude.{nat_lt, is_some, ◌^◌}
use Rattle.std.specs.List.{AllByRecursion}
use Rattle.std.specs.BTreeMap.{is_at}
use Rattle.std.proofs.lemmas.Bool.Decides.{nat_tests}
use Rattle.file_calls.specs.Names.{name_cmp, is_name, is_content}
use Rattle.machine.specs.Files.{CallRow, versions_of, Write, Files, Writing, write_of, with_writing, files}
use Rattle.machine.proofs.Directories.{Entry, AreRising, count_with, all_inserted, all_removed, rising_inserted, rising_removed, count_inserted, count_removed}
use Rattle.machine.proofs.Filing.{Draws, stays_through}

-- a file has a name and 1 to 64 blocks
pub record IsFile (entry : Entry) : Type 0 where
  pub name : is_name entry.0 ≡ true
  pub some : 1 ≤ length entry.1
  pub few : length entry.1 ≤ 64

abbrev pub HoldContents : List Write → Type 0
HoldContents writes = AllByRecursion (λ w. is_content w.content ≡ true) writes

pub record InRange (files : Files) : Type 0 where
  pub drawn : length files.writes < 2 ^ 56
  pub room : length files.names ≤ 128
  pub rising : AreRising files.names
  pub entries : AllByRecursion IsFile files.names
  pub contents : HoldContents files.writes

one_behind : (writes : List Write) (w : Write) → HoldContents writes → is_content w.content ≡ true
    → HoldContents (writes ++ w ∷ [])
one_behind [] w all new = (new, tt)
one_behind (x ∷ writes) w all new = (all.0, one_behind writes w all.1 new)

still_room : (known : Bool) (count : ℕ) → (known || nat_lt count 128) ≡ true → count ≤ 128
    → count_with known count ≤ 128
still_room true count room few = few
still_room false count room few = grind (arith, nat_tests)

write_kept : (files : Files) (w : Writing) → Draws files w → InRange files → InRange (with_writing (Some w) files)
write_kept files w draws range =
    let longer : length (w.front ++ w.version ∷ []) ≡ length w.front + 1 =
    length-append w.front (w.version ∷ []) in
    let more : length (files.writes ++ write_of w ∷ []) ≡ length files.writes + 1 =
    length-append files.writes (write_of w ∷ []) in
    let few = draws.few in
    let short = draws.short in
    let count = count_inserted files.names w.name (w.front ++ w.version ∷ []) range.rising in
    let fits = still_room (is_some (versions_of w.name files.names)) (length files.names) draws.room range.room in
    record {
      drawn = omega (arith, more, few);
      room = omega (arith, count, fits);
      rising = rising_inserted files.names w.name (w.front ++ w.version ∷ []) range.rising;
      entries = all_inserted IsFile files.names w.name (w.front ++ w.version ∷ []) range.entries
          (record { name = draws.name; some = omega (arith, longer); few = omega (arith, longer, short) });
      contents = one_behind files.writes (write_of w) range.contents draws.content;
    }

-- the files of a level are in range after all calls
pub in_range : (level : ℕ) (cs : List CallRow) → InRange (files level cs)
in_range = stays_through InRange (record {
  none = record { drawn = omega arith; room = omega arith; rising = tt; entries = tt; contents = tt };
  write = write_kept;
  remove = λ files name range.
      (let fewer = count_removed files.names (is_at (name_cmp name)) in
      let room = range.room in
      record {
        drawn = range.drawn;
        room = omega (arith, fewer, room);
        rising = rising_removed files.names (is_at (name_cmp name)) range.rising;
        entries = all_removed IsFile files.names (is_at (name_cmp name)) range.entries;
        contents = range.contents;
      });
})
