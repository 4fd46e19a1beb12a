-- Sources and sinks in memory, whose calls are numbered from 1 and fail by a list of numbers.
use Rattle.std.specs.Prelude.{◌≡◌, ℕ, ◌+◌, ◌-◌, ◌^◌, min, List, Result, Err}
use Rattle.dss_io.specs.Faults.{one_more}
use Rattle.dss_io.specs.declared.sink.SinkStop.{SinkStop}
use Rattle.dss_io.specs.declared.sink.SinkStop.TheVariants.{Failed}

pub record MemView : Type 0 where
  -- those that a source has left, or those that were written to a sink
  pub bytes : List ℕ
  -- the most bytes that a call moves
  pub step : ℕ
  -- the numbers of the calls that fail
  pub failing : List ℕ
  -- the number of the newest call, or 0
  pub call : ℕ
  pub faults : ℕ

-- before the first call
abbrev pub uncalled : List ℕ → ℕ → List ℕ → MemView
uncalled bytes step failing = record {
  bytes = bytes;
  step = step;
  failing = failing;
  call = 0;
  faults = 0;
}

-- the number of the call after this one; the last number stays
abbrev pub next_call : ℕ → ℕ
next_call call = min (call + 1) (2 ^ 64 - 1)

-- one call later, with the same step and the same failing calls
pub record IsNextCall (old new : MemView) : Type 0 where
  pub call : new.call ≡ next_call old.call
  pub step : new.step ≡ old.step
  pub failing : new.failing ≡ old.failing

-- a failed write is one more fault, and nothing else is
abbrev pub CountsFailures : {T : Type 0} → ℕ → ℕ → Result T SinkStop → Type 0
CountsFailures before now (Err Failed) = now ≡ one_more before
CountsFailures before now _ = now ≡ before
