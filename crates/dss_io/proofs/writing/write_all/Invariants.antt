use Rattle.std.proofs.Common.{◌≡◌, ◌≤◌, List, ℕ, ◌++◌, length}
use Rattle.std.specs.Io.KnownBytes.{Appends}
use Rattle.dss_io.proofs.writing.write_all.Given as goal

-- what was written so far and the rest make the text
abbrev pub invariant-loop-rest : goal.invariant-loop-rest
invariant-loop-rest g l =
    record {
      done : (bytes : List ℕ) × (l.text ≡ bytes ++ l.rest)
          × Appends (g.K.Sink.written l.initial.sink) (g.K.Sink.written l.sink) bytes;
      kept : g.K.Sink.faults l.sink ≡ g.K.Sink.faults l.initial.sink;
    }

abbrev pub decreases-loop-rest : goal.decreases-loop-rest
decreases-loop-rest g l = length l.rest
