-- The generator that everything in a drill is drawn from.
use Rattle.std.specs.Prelude.{ℕ, zero, suc, ◌+◌, ◌*◌, ◌/◌, ◌%◌}

-- the state that follows a state
unfoldable pub next_state : ℕ → ℕ
next_state state = (state * 1103515245 + 12345) % 2147483648

-- the state after some draws, of which the first begins with the seed
unfoldable pub state_after : ℕ → ℕ → ℕ
state_after seed zero = seed
state_after seed (suc draws) = next_state (state_after seed draws)

-- what is drawn below a number where this is the state after the draw
abbrev pub drawn_from : ℕ → ℕ → ℕ
drawn_from state below = state / 65536 % below

-- the draw of a seed, by its number from 0, below a number
abbrev pub drawn : ℕ → ℕ → ℕ → ℕ
drawn seed draw below = drawn_from (state_after seed (draw + 1)) below
