-- A manager that answered a call stands for the list with that call.
use Rattle.std.proofs.Common.{◌≡◌, ℕ, ◌+◌, ◌<◌, List, [], ◌∷◌, ◌++◌, length, Bool, true, false, Option, None, Some, refl, sym, ap, ◌∙◌, subst, length-append}
use Rattle.std.specs.Prelude.{slice_get, slice_set, if◌then◌else◌, ◌==◌}
use Rattle.std.proofs.lemmas.List.{length-set, get_or-set_same, get_or-set_other}
use Rattle.std.proofs.lemmas.Option.{slice_get-get_or, slice_get_within, get_or_from_slice_get}
use Rattle.std.proofs.lemmas.Bool.{eqb-true, eqb-false}
use Rattle.levels.specs.declared.level.Party.{Party}
use Rattle.levels.specs.Rosters.{RosterView}
use Rattle.file_calls.specs.declared.call.Call.{Call}
use Rattle.file_calls.specs.declared.call.Call.TheVariants.{Put, Get, List as ListNames, Remove, Append, GetBlock}
use Rattle.file_calls.specs.Spelling.{call_of}
use Rattle.machine.specs.Files.{CallRow, Files, Writing, write_of, with_writing, change, files}
use Rattle.file_manager.specs.ShelfView.{ShelfView}
use Rattle.file_manager.specs.ManagerView.{ManagerView}
use Rattle.file_manager.specs.Standing.{shelf_of, StandsFor}
use Rattle.file_manager.specs.inside.Shelves.{empty_shelf, shelf_with, shelf_writes, shelf_after, shelf_at, shelves_after}
use Rattle.file_manager.proofs.Sights.{shelf_is}

-- a shelf shows the files after a write
with_write : (o : Option Writing) (fs : Files) → shelf_with o (shelf_of fs) ≡ shelf_of (with_writing o fs)
with_write None fs = refl
with_write (Some w) fs =
    let drawn : length fs.writes + 1 ≡ length (fs.writes ++ write_of w ∷ []) =
    sym (length-append fs.writes (write_of w ∷ [])) in
    λ i. record { names = (with_writing (Some w) fs).names; drawn = drawn i }

-- and the files after any call of its level
changed : (call : Call) (fs : Files) → shelf_after call (shelf_of fs) ≡ shelf_of (change (Some call) fs)
changed (Put name content) fs = with_write (shelf_writes (shelf_of fs) (Put name content)) fs
changed (Append name content) fs = with_write (shelf_writes (shelf_of fs) (Append name content)) fs
changed (Get level name) fs = with_write (shelf_writes (shelf_of fs) (Get level name)) fs
changed (GetBlock level name block) fs = with_write (shelf_writes (shelf_of fs) (GetBlock level name block)) fs
changed (ListNames level) fs = with_write (shelf_writes (shelf_of fs) (ListNames level)) fs
changed (Remove name) fs = refl

-- ---- one shelf of all

shelf_here : (shelves : List ShelfView) (p : ℕ) (new : ShelfView) → p < length shelves
    → slice_get (slice_set shelves p new) p ≡ Some new
shelf_here shelves p new inside =
    slice_get-get_or (slice_set shelves p new) p empty_shelf
    (subst (λ n. p < n) (sym (length-set shelves p new)) inside)
    ∙ ap Some (get_or-set_same shelves p new empty_shelf inside)

shelf_elsewhere : (shelves : List ShelfView) (p q : ℕ) (new old : ShelfView) → (q ≡ p → ⊥)
    → slice_get shelves q ≡ Some old → slice_get (slice_set shelves p new) q ≡ Some old
shelf_elsewhere shelves p q new old apart is =
    let inside = slice_get_within shelves q old is in
    slice_get-get_or (slice_set shelves p new) q empty_shelf
    (subst (λ n. q < n) (sym (length-set shelves p new)) inside)
    ∙ ap Some (get_or-set_other shelves p q new empty_shelf apart ∙ get_or_from_slice_get shelves q old empty_shelf is)

follows : (roster : RosterView) (m : ManagerView) (calls : List CallRow) (p q : ℕ) (o : Option Call) (b : Bool)
    → p < length roster.levels → q < length roster.levels → StandsFor roster m calls → (p == q) ≡ b
    → slice_get (shelves_after p o m.shelves) q
    ≡ Some (shelf_of (if b then change o (files q calls) else files q calls))
follows roster m calls p q None true here there stands is = stands.shelves q there
follows roster m calls p q None false here there stands is = stands.shelves q there
follows roster m calls p q (Some call) true here there stands is =
    let same : p ≡ q = eqb-true p q is in
    let new = shelf_after call (shelf_at m.shelves p) in
    ap (λ j. slice_get (slice_set m.shelves p new) j) (sym same)
    ∙ shelf_here m.shelves p new (slice_get_within m.shelves p (shelf_of (files p calls)) (stands.shelves p here))
    ∙ ap (λ s. Some (shelf_after call s)) (shelf_is roster m calls p here stands)
    ∙ ap Some (changed call (files p calls))
    ∙ ap (λ j. Some (shelf_of (change (Some call) (files j calls)))) same
follows roster m calls p q (Some call) false here there stands is =
    shelf_elsewhere m.shelves p q (shelf_after call (shelf_at m.shelves p)) (shelf_of (files q calls))
    (λ e. eqb-false p q is (sym e)) (stands.shelves q there)

pub stands_after : (roster : RosterView) (m : ManagerView) (calls : List CallRow) (caller : Party) (p : ℕ)
    (message : List ℕ) → p < length roster.levels → StandsFor roster m calls
    → StandsFor roster (record m { shelves = shelves_after p (call_of message) m.shelves })
    (record { caller = caller; level = p; message = message } ∷ calls)
stands_after roster m calls caller p message here stands = record {
  levels = stands.levels;
  shelves = λ q there. follows roster m calls p q (call_of message) (p == q) here there stands refl;
}
