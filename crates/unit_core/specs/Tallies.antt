-- What a unit counts.
use Rattle.std.specs.Prelude.{ℕ, ◌+◌, ◌-◌, ◌^◌, min}
use Rattle.unit_core.specs.Views.{TallyView}

-- a number that stays at its greatest value
unfoldable pub capped : ℕ → ℕ
capped n = min n (2 ^ 64 - 1)

-- the numbers of a unit that has made no turn
abbrev pub nothing_counted : TallyView
nothing_counted = record { turns = 0; sealed = 0; ours = 0; given = 0 }

-- the numbers after one more turn, in which so much was sealed, the unit's and given
abbrev pub counted : TallyView → ℕ → ℕ → ℕ → TallyView
counted tally sealed ours given = record {
  turns = capped (tally.turns + 1);
  sealed = capped (tally.sealed + sealed);
  ours = capped (tally.ours + ours);
  given = capped (tally.given + given);
}
