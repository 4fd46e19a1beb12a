-- What a unit does with what its host sends: it depends on the next numbers alone.
use Rattle.std.specs.Prelude.{ℕ, ◌+◌, List, [], ◌∷◌, ◌++◌, length, map, Option, Some, None, Result, Ok, Err}
use Rattle.std.specs.List.{range_with_len}
use Rattle.std.proofs.Math.ListN.{get_or, set}
use Rattle.frame.specs.Pieces.{PieceView, pieces, piece_of}
use Rattle.frame.specs.declared.refused.SendRefused.{SendRefused}
use Rattle.host_side.specs.Sending.{send_answer}
use Rattle.unit_core.specs.Views.{OutgoingView}
use Rattle.unit_core.specs.declared.rows.SendAnswer.{SendAnswer}
use Rattle.unit_core.specs.declared.rows.SendAnswer.TheVariants.{Sent, Refused}

-- the number that a message draws, or why it is refused
abbrev pub number_for : List (Option ℕ) → OutgoingView → Result ℕ SendRefused
number_for streams send = send_answer (get_or streams send.to None) (length send.message)

abbrev pub answer_of : Result ℕ SendRefused → SendAnswer
answer_of (Ok number) = Sent number
answer_of (Err why) = Refused why

abbrev pub with_number : List (Option ℕ) → ℕ → Result ℕ SendRefused → List (Option ℕ)
with_number streams to (Ok number) = set streams to (Some (number + 1))
with_number streams to (Err why) = streams

-- the next numbers after a send
abbrev pub after_send : List (Option ℕ) → OutgoingView → List (Option ℕ)
after_send streams send = with_number streams send.to (number_for streams send)

-- the next numbers after these sends
abbrev pub streams_after : List (Option ℕ) → List OutgoingView → List (Option ℕ)
streams_after streams [] = streams
streams_after streams (send ∷ sends) = streams_after (after_send streams send) sends

-- the answer to each send, in order
abbrev pub answers_to : List (Option ℕ) → List OutgoingView → List SendAnswer
answers_to streams [] = []
answers_to streams (send ∷ sends) =
    answer_of (number_for streams send) ∷ answers_to (after_send streams send) sends

-- the pieces of a message with this number, and none of one that is refused
abbrev pub pieces_for : ℕ → ℕ → OutgoingView → Result ℕ SendRefused → List PieceView
pieces_for address partition send (Ok number) =
    map (piece_of address send.to partition number send.message)
    (range_with_len 0 (pieces send.message))
pieces_for address partition send (Err why) = []

-- the pieces of the accepted sends of a unit with this address, in order of send and piece
abbrev pub pieces_sent : ℕ → ℕ → List (Option ℕ) → List OutgoingView → List PieceView
pieces_sent address partition streams [] = []
pieces_sent address partition streams (send ∷ sends) =
    pieces_for address partition send (number_for streams send)
    ++ pieces_sent address partition (after_send streams send) sends
