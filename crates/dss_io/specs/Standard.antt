-- A reader or a writer of the system's, with a count of its faults.
use Rattle.std.specs.Prelude.{ℕ}

pub record Counted (X : Type 0) : Type 0 where
  pub inner : X
  pub faults : ℕ

-- before the first call
abbrev pub uncounted : {X : Type 0} → X → Counted X
uncounted inner = record { inner = inner; faults = 0 }
