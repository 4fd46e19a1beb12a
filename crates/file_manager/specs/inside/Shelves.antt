-- How a call of a level changes what is kept of it.
use Rattle.std.specs.Prelude.{ℕ, ◌+◌, List, [], ◌∷◌, ◌++◌, Option, None, Some, slice_index_or, slice_set}
use Rattle.std.specs.Map.{remove_entry}
use Rattle.std.specs.BTreeMap.{is_at, insert_entry}
use Rattle.file_calls.specs.Names.{name_cmp}
use Rattle.file_calls.specs.declared.call.Call.{Call}
use Rattle.file_calls.specs.declared.call.Call.TheVariants.{Remove}
use Rattle.machine.specs.Files.{Writing, next_version, writing}
use Rattle.file_manager.specs.ShelfView.{ShelfView}

abbrev pub empty_shelf : ShelfView
empty_shelf = record { names = []; drawn = 0 }

-- a name gets versions, the last of which is drawn now
abbrev pub with_versions : List ℕ → List ℕ → ShelfView → ShelfView
with_versions name versions shelf = record {
  names = insert_entry name_cmp shelf.names name versions;
  drawn = shelf.drawn + 1;
}

abbrev pub without_name : List ℕ → ShelfView → ShelfView
without_name name shelf = record {
  names = remove_entry (is_at (name_cmp name)) shelf.names;
  drawn = shelf.drawn;
}

-- a shelf after a write, if it is accepted
abbrev pub shelf_with : Option Writing → ShelfView → ShelfView
shelf_with None shelf = shelf
shelf_with (Some w) shelf = with_versions w.name (w.front ++ w.version ∷ []) shelf

-- what a call of the level writes
abbrev pub shelf_writes : ShelfView → Call → Option Writing
shelf_writes shelf call = writing (next_version shelf.drawn) shelf.names call

abbrev pub shelf_after : Call → ShelfView → ShelfView
shelf_after (Remove name) shelf = without_name name shelf
shelf_after call shelf = shelf_with (shelf_writes shelf call) shelf

abbrev pub shelf_at : List ShelfView → ℕ → ShelfView
shelf_at shelves level = slice_index_or shelves level empty_shelf

abbrev pub shelves_after : ℕ → Option Call → List ShelfView → List ShelfView
shelves_after level None shelves = shelves
shelves_after level (Some call) shelves =
    slice_set shelves level (shelf_after call (shelf_at shelves level))
