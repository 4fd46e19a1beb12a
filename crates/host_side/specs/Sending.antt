-- What a send is answered.
use Rattle.std.specs.Prelude.{ℕ, List, nat_lt, ◌==◌, Option, Some, None, Result, Ok, Err, if◌then◌else◌}
use Rattle.frame.specs.declared.refused.SendRefused.{SendRefused}
use Rattle.frame.specs.declared.refused.SendRefused.TheVariants.{NoPartner, TooLong, Spent}
use Rattle.window.specs.Windows.{is_among}

-- The answer to a send of so many bytes on a stream with this next number, or to no partner.
abbrev pub send_answer : Option ℕ → ℕ → Result ℕ SendRefused
send_answer None length = Err NoPartner
send_answer (Some next) length =
    if nat_lt 5632 length then Err TooLong else (if next == 4294967295 then Err Spent else Ok next)

-- the first number of the stream to an address, if it is a partner's
abbrev pub first_number : List ℕ → ℕ → ℕ → Option ℕ
first_number partners first a = if is_among partners a then Some first else None
