-- How far a receiver looks ahead.
use Rattle.std.specs.Prelude.{ℕ}

-- a message may still be given where no piece has come of one whose number is greater by more
abbrev pub messages_ahead : ℕ
messages_ahead = 3
