-- What the shelves show to a level.
use Rattle.std.specs.Prelude.{ℕ, List, Bool, length, Option, None, if◌then◌else◌, slice_get}
use Rattle.std.specs.Option.{option_map}
use Rattle.levels.specs.declared.level.Level.{Level}
use Rattle.file_calls.specs.declared.call.Reply.{Reply}
use Rattle.file_calls.specs.declared.call.Reply.TheVariants.{Bytes, Block}
use Rattle.machine.specs.Files.{Directory, versions_of, next_version}
use Rattle.machine.specs.Replies.{Sight, are_at_most, if_below, if_there, if_within}
use Rattle.file_manager.specs.declared.read.Wanted.{Wanted}
use Rattle.file_manager.specs.declared.read.Wanted.TheVariants.{First, Numbered}
use Rattle.file_manager.specs.ShelfView.{ShelfView}
use Rattle.file_manager.specs.inside.Shelves.{shelf_at}

-- the same as in a roster that has these levels
abbrev pub is_below_in : List Level → ℕ → ℕ → Bool
is_below_in levels q p = are_at_most (slice_get levels q) (slice_get levels p)

-- the shelf of level q, where level p may read it
abbrev pub shelf_below : List Level → List ShelfView → ℕ → ℕ → Option ShelfView
shelf_below levels shelves q p =
    if is_below_in levels q p then slice_get shelves q else None

abbrev pub names_in : Option ShelfView → Option Directory
names_in shelf = option_map (λ s. s.names) shelf

abbrev pub sight_in : List Level → List ShelfView → ℕ → Sight
sight_in levels shelves p = record {
  own = (shelf_at shelves p).names;
  next = next_version (shelf_at shelves p).drawn;
  below = λ q. names_in (shelf_below levels shelves q p);
}

abbrev pub number_of : Wanted → ℕ
number_of First = 0
number_of (Numbered block) = block

-- the reply with a block of a file that has so many
abbrev pub found_as : Wanted → ℕ → ℕ → List ℕ → Reply
found_as First count version content = Bytes version content
found_as (Numbered block) count version content = Block version count content

-- the reply to a call that asks for a block of a name, by what was opened
abbrev pub read_reply : Option Directory → List ℕ → Wanted → Option (List ℕ) → Reply
read_reply below name wanted opened =
    if_below below (λ names. if_there (versions_of name names)
    (λ versions. if_within (found_as wanted (length versions)) opened (length versions)
    (slice_get versions (number_of wanted))))
