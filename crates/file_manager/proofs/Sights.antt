-- What the shelves show to a level is what the calls say.
use Rattle.std.proofs.Common.{◌≡◌, ℕ, ◌<◌, List, length, map, Bool, true, false, Option, None, Some, refl, sym, ap, ap₂, ◌∙◌, true≢false, arith}
use Rattle.std.specs.Prelude.{slice_get, if◌then◌else◌}
use Rattle.std.specs.Option.{option_map}
use Rattle.std.proofs.lemmas.List.{length-map}
use Rattle.std.proofs.lemmas.Option.{slice_get-map, slice_get_within, get_or_from_slice_get}
use Rattle.levels.specs.declared.level.Level.{Level}
use Rattle.levels.specs.declared.rows.LevelRow.{LevelRow}
use Rattle.levels.specs.Rosters.{RosterView, level_at}
use Rattle.machine.specs.Files.{CallRow, next_version, files}
use Rattle.machine.specs.Replies.{are_at_most, is_below, sight}
use Rattle.file_manager.specs.ManagerView.{ManagerView}
use Rattle.file_manager.specs.Standing.{shelf_of, StandsFor}
use Rattle.file_manager.specs.inside.Shelves.{empty_shelf, shelf_at}
use Rattle.file_manager.specs.inside.Sights.{is_below_in, names_in, sight_in}

pub level_room : (roster : RosterView) (m : ManagerView) (calls : List CallRow) → StandsFor roster m calls
    → length m.levels ≡ length roster.levels
level_room roster m calls stands =
    ap length stands.levels ∙ length-map roster.levels (λ (row : LevelRow). row.level)

pub shelf_is : (roster : RosterView) (m : ManagerView) (calls : List CallRow) (p : ℕ) → p < length roster.levels
    → StandsFor roster m calls → shelf_at m.shelves p ≡ shelf_of (files p calls)
shelf_is roster m calls p within stands =
    get_or_from_slice_get m.shelves p (shelf_of (files p calls)) empty_shelf (stands.shelves p within)

level_is : (roster : RosterView) (levels : List Level) (q : ℕ) → levels ≡ map (λ row. row.level) roster.levels
    → slice_get levels q ≡ level_at roster (Some (record { 0 = q }))
level_is roster levels q is =
    ap (λ ls. slice_get ls q) is ∙ slice_get-map (λ (row : LevelRow). row.level) roster.levels q

below_is : (roster : RosterView) (levels : List Level) (q p : ℕ) → levels ≡ map (λ row. row.level) roster.levels
    → is_below_in levels q p ≡ is_below roster q p
below_is roster levels q p is = ap₂ are_at_most (level_is roster levels q is) (level_is roster levels p is)

-- a level that is at or below another is one of the roster
within_by : (rows : List LevelRow) (q : ℕ) (o : Option LevelRow) (y : Option Level) → slice_get rows q ≡ o
    → are_at_most (option_map (λ row. row.level) o) y ≡ true → q < length rows
within_by rows q None y is h = absurd (true≢false (sym h))
within_by rows q (Some row) y is h = slice_get_within rows q row is

within : (roster : RosterView) (q p : ℕ) → is_below roster q p ≡ true → q < length roster.levels
within roster q p h =
    within_by roster.levels q (slice_get roster.levels q) (level_at roster (Some (record { 0 = p }))) refl h

seen_by : (roster : RosterView) (m : ManagerView) (calls : List CallRow) (q : ℕ) (b : Bool)
    → (b ≡ true → q < length roster.levels) → StandsFor roster m calls
    → names_in (if b then slice_get m.shelves q else None) ≡ (if b then Some (files q calls).names else None)
seen_by roster m calls q true inside stands = ap names_in (stands.shelves q (inside refl))
seen_by roster m calls q false inside stands = refl

pub same_sight : (roster : RosterView) (m : ManagerView) (calls : List CallRow) (p : ℕ) → p < length m.levels
    → StandsFor roster m calls → sight_in m.levels m.shelves p ≡ sight roster p calls
same_sight roster m calls p inside stands =
    let room = level_room roster m calls stands in
    let shelf = shelf_is roster m calls p (omega (arith, room, inside)) stands in
    let below : (q : ℕ) → (sight_in m.levels m.shelves p).below q ≡ (sight roster p calls).below q =
    λ q. ap (λ b. names_in (if b then slice_get m.shelves q else None)) (below_is roster m.levels q p stands.levels)
    ∙ seen_by roster m calls q (is_below roster q p) (within roster q p) stands in
    λ i. record {
      own = (shelf i).names;
      next = next_version (shelf i).drawn;
      below = λ q. below q i;
    }
