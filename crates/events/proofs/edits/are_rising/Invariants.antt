use Rattle.std.proofs.Common.{◌≡◌, ◌<◌, ℕ, drop}
use Rattle.std.specs.Prelude.{slice_index_or}
use Rattle.events.specs.inside.Edits.{rise_from}
use Rattle.events.proofs.edits.are_rising.Given as goal

abbrev pub invariant-loop-offset : goal.invariant-loop-offset
invariant-loop-offset l = record {
  rising : rise_from l.least (drop l.offset-index l.pairs) ≡ rise_from 0 l.pairs;
  bytes : (k : ℕ) → k < l.offset-index → (slice_index_or l.pairs k (0, 0)).1 < 256;
}
