-- The steps of a drill: each is three draws.
use Rattle.std.specs.Prelude.{ℕ, ◌+◌, ◌*◌, List, map}
use Rattle.std.specs.List.{range_with_len}
use Rattle.drill.specs.declared.draws.Step.{Step}
use Rattle.drill.specs.Generator.{drawn}

-- a step by its number from 0: a host from 1 to 6, a kind from 0 to 7, and a value from 1 to 97
abbrev pub step_at : ℕ → ℕ → Step
step_at seed i = record {
  host = 1 + drawn seed (3 * i) 6;
  kind = drawn seed (3 * i + 1) 8;
  value = 1 + drawn seed (3 * i + 2) 97;
}

-- the first steps of a seed
abbrev pub steps : ℕ → ℕ → List Step
steps seed count = map (step_at seed) (range_with_len 0 count)
