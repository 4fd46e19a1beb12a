-- The one spelling of each line.
use Rattle.std.specs.Prelude.{ℕ, zero, suc, ◌+◌, ◌/◌, ◌%◌, List, [], ◌∷◌, ◌++◌, codes, map, ◌==◌, if◌then◌else◌}
use Rattle.std.specs.List.{join_with_byte}
use Rattle.std.specs.Fmt.{decimal}
use Rattle.seal_core.specs.declared.KeyPair.{KeyPair}
use Rattle.events.specs.Words.{hex_word}
use Rattle.script.specs.declared.line.PartyWord.{PartyWord}
use Rattle.script.specs.declared.line.PartyWord.TheVariants.{Address, Name}
use Rattle.script.specs.declared.line.StreamWord.{StreamWord}
use Rattle.script.specs.Lines.{CallWords, EventWords, StoreWords, Line}
use Rattle.script.specs.Lines as line

-- the letters of the n lowest categories that are set, the first of them being the given letter
unfoldable pub letters : ℕ → ℕ → ℕ → List ℕ
letters zero letter cats = []
letters (suc n) letter cats =
    (if cats % 2 == 1 then letter ∷ [] else []) ++ letters n (letter + 1) (cats / 2)

-- the letters from `a` to `p` of the categories that are set, or `-`
abbrev pub cats_word : ℕ → List ℕ
cats_word cats = if cats == 0 then codes "-" else letters 16 97 cats

-- a host's address, or the name of a level, for the manager unit of its partition
abbrev pub party_text : PartyWord → List ℕ
party_text (Address address) = decimal address
party_text (Name level) = level

-- the two parties of a stream, with `>` between them
abbrev pub stream_text : StreamWord → List ℕ
stream_text stream = party_text stream.from ++ 62 ∷ party_text stream.to

-- a message by its stream and its number, with `#` between them
abbrev pub message_text : StreamWord × ℕ → List ℕ
message_text message = stream_text message.0 ++ 35 ∷ decimal message.1

-- the number of a message and that of its piece, with `.` between them
abbrev pub numbers_text : ℕ × ℕ → List ℕ
numbers_text numbers = decimal numbers.0 ++ 46 ∷ decimal numbers.1

-- a piece by its stream and its numbers, with `#` between them
abbrev pub piece_text : StreamWord × (ℕ × ℕ) → List ℕ
piece_text piece = stream_text piece.0 ++ 35 ∷ numbers_text piece.1

-- two digits
abbrev pub byte_text : ℕ → List ℕ
byte_text byte = hex_word (byte ∷ [])

-- an offset and what the byte there is changed by, with `^` between them
abbrev pub edit_text : ℕ × ℕ → List ℕ
edit_text edit = decimal edit.0 ++ 94 ∷ byte_text edit.1

abbrev pub call_words : ℕ → CallWords → List (List ℕ)
call_words from (line.Put name content) =
    codes "put" ∷ decimal from ∷ name ∷ hex_word content ∷ []
call_words from (line.Get level name) = codes "get" ∷ decimal from ∷ level ∷ name ∷ []
call_words from (line.ListNames level) = codes "list" ∷ decimal from ∷ level ∷ []
call_words from (line.Remove name) = codes "remove" ∷ decimal from ∷ name ∷ []
call_words from (line.Append name content) =
    codes "append" ∷ decimal from ∷ name ∷ hex_word content ∷ []
call_words from (line.Block level name block) =
    codes "block" ∷ decimal from ∷ level ∷ name ∷ decimal block ∷ []

abbrev pub event_words : EventWords → List (List ℕ)
event_words (line.Send from to message) =
    codes "send" ∷ decimal from ∷ party_text to ∷ hex_word message ∷ []
event_words (line.Ask from call) = call_words from call
event_words (line.Deliver stream message piece at) =
    codes "deliver" ∷ piece_text (stream, (message, piece)) ∷ codes "to" ∷ party_text at ∷ []
event_words (line.Carry stream message at) =
    codes "carry" ∷ message_text (stream, message) ∷ codes "to" ∷ party_text at ∷ []
event_words (line.Forge at bytes) = codes "forge" ∷ party_text at ∷ hex_word bytes ∷ []
event_words (line.Tamper stream message piece at edits) =
    codes "tamper" ∷ piece_text (stream, (message, piece)) ∷ codes "to" ∷ party_text at
    ∷ map edit_text edits

abbrev pub action_words : StoreWords → List (List ℕ)
action_words line.Honest = codes "true" ∷ []
action_words (line.Of level version) = codes "of" ∷ level ∷ decimal version ∷ []
action_words (line.Flip offset xor) = codes "flip" ∷ decimal offset ∷ byte_text xor ∷ []
action_words line.Gone = codes "gone" ∷ []

abbrev pub pair_words : KeyPair → List (List ℕ)
pair_words pair = hex_word pair.main ∷ hex_word pair.check ∷ []

abbrev pub line_words : Line → List (List ℕ)
line_words line.Version = codes "dss" ∷ codes "1" ∷ []
line_words line.Seal = codes "seal" ∷ codes "des" ∷ []
line_words (line.Level name level) =
    codes "level" ∷ name ∷ decimal level.rank ∷ cats_word level.cats ∷ []
line_words (line.Key level pair) = codes "key" ∷ level ∷ pair_words pair
line_words (line.Guard pair) = codes "guard" ∷ pair_words pair
line_words (line.Host address level) = codes "host" ∷ decimal address ∷ level ∷ []
line_words (line.Store reader action) = codes "store" ∷ reader ∷ action_words action
line_words line.Begin = codes "begin" ∷ []
line_words (line.Event words) = event_words words
line_words line.End = codes "end" ∷ []

-- the words of a line with one space between each two
abbrev pub line_text : Line → List ℕ
line_text line' = join_with_byte 32 (line_words line')

-- the same with the newline
abbrev pub ended_text : Line → List ℕ
ended_text line' = line_text line' ++ 10 ∷ []
