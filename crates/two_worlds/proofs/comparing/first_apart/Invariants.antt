use Rattle.std.proofs.Common.{◌≡◌, ℕ, ◌<◌, map}
use Rattle.std.specs.Prelude.{slice_get}
use Rattle.two_worlds.specs.LowParts.{entry_at}
use Rattle.two_worlds.proofs.comparing.first_apart.Given as goal

abbrev pub invariant-loop-place : goal.invariant-loop-place
invariant-loop-place l =
    (k : ℕ) → k < l.place → slice_get (map (entry_at l.a) l.first) k ≡ slice_get (map (entry_at l.b) l.second) k
