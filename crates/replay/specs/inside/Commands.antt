-- How words are read.
use Rattle.std.specs.Prelude.{ℕ, ◌≤◌, List, [], ◌∷◌, Bool, false, not, ◌&&◌, ◌==◌}
use Rattle.std.specs.Char.{is_ascii_digit}
use Rattle.replay.specs.declared.command.Command.{Command}
use Rattle.replay.specs.declared.command.Command.TheVariants.{Check, Run, Twin, Drill}

-- whether a word has a digit in front, and no zero in front of more
abbrev pub is_plain : List ℕ → Bool
is_plain [] = false
is_plain (c ∷ []) = is_ascii_digit c
is_plain (c ∷ d ∷ more) = is_ascii_digit c && not (c == 48)

-- the numbers of a drill are in their ranges
abbrev pub HasRange : Command → Type 0
HasRange Check = Unit {0}
HasRange (Run shown) = Unit {0}
HasRange (Twin name) = Unit {0}
HasRange (Drill seed count) = (seed ≤ 2147483647) × (count ≤ 20000)
