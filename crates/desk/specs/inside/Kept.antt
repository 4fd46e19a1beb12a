-- What a wire keeps: each frame once, and where the messages stand.
use Rattle.std.specs.Prelude.{◌≡◌, ℕ, ◌+◌, ◌≤◌, List, [], length, map, take, drop, Some, slice_get}
use Rattle.std.specs.Global.{Vec}
use Rattle.std.proofs.Math.ListN.{get_or}
use Rattle.desk.specs.Wires.{WireView}
use Rattle.desk.specs.declared.wire.Run.{Run}
use Rattle.desk.specs.declared.wire.Wire.TheInside.{Inside}

-- the frames, and for each address from 0 where the messages to it stand among them
pub record Kept : Type 0 where
  pub frames : List (List ℕ)
  pub runs : List (List Run)

abbrev pub items_of : Vec Run → List Run
items_of runs = runs.items

abbrev pub kept_of : Inside → Kept
kept_of a = record { frames = a.frames.items; runs = map items_of a.runs.items }

-- where the messages to an address stand
abbrev pub runs_to : Kept → ℕ → List Run
runs_to kept to = get_or kept.runs to []

-- the frames of a message
abbrev pub part_of : List (List ℕ) → Run → List (List ℕ)
part_of frames run = take run.count (drop run.first frames)

-- what callers see of it
abbrev pub shown : Kept → WireView
shown kept = record { frames = kept.frames; messages = map (map (part_of kept.frames)) kept.runs }

abbrev pub view_of : Inside → WireView
view_of a = shown (kept_of a)

-- each message lies within the frames
pub record IsKept (kept : Kept) : Type 0 where
  pub addresses : length kept.runs ≡ 256
  pub within : (to j : ℕ) (run : Run) → slice_get (runs_to kept to) j ≡ Some run
      → run.first + run.count ≤ length kept.frames
