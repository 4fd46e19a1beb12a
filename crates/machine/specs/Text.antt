-- What is written: for each host what it is told, and a line for each frame.
use Rattle.std.specs.Prelude.{ℕ, List, [], ◌∷◌, ◌++◌, filter, codes, Option, None, Some}
use Rattle.std.specs.List.{flat_map, range_with_len, join_with_byte}
use Rattle.std.specs.Fmt.{decimal}
use Rattle.levels.specs.declared.level.Level.{Level}
use Rattle.levels.specs.declared.level.Party.TheVariants.{Host, Manager}
use Rattle.levels.specs.declared.rows.HostRow.{HostRow}
use Rattle.levels.specs.Rosters.{RosterView, host_row, level_of}
use Rattle.frame.specs.declared.refused.SendRefused.{SendRefused}
use Rattle.frame.specs.declared.refused.SendRefused.TheVariants.{NoPartner, TooLong, Spent}
use Rattle.events.specs.Words.{hex_word, party_word}
use Rattle.machine.specs.declared.line.OutLine.{OutLine}
use Rattle.machine.specs.declared.line.OutLine.TheVariants.{Sent, Refused, From}
use Rattle.machine.specs.declared.line.FrameRow.{FrameRow}
use Rattle.events.specs.ScriptView.{ScriptView}
use Rattle.machine.specs.Low.{low, is_low}
use Rattle.machine.specs.Machine.{told}
use Rattle.machine.specs.Wire.{frames}

-- words with one space between them, and a newline
abbrev pub line : List (List ℕ) → List ℕ
line words = join_with_byte 32 words ++ 10 ∷ []

abbrev pub refusal_word : SendRefused → List ℕ
refusal_word NoPartner = codes "nopartner"
refusal_word TooLong = codes "toolong"
refusal_word Spent = codes "spent"

abbrev pub words_of : RosterView → OutLine → List (List ℕ)
words_of roster (Sent to message) = codes "sent" ∷ party_word roster to ∷ decimal message ∷ []
words_of roster (Refused to why) =
    codes "refused" ∷ party_word roster to ∷ refusal_word why ∷ []
words_of roster (From from body) = codes "from" ∷ party_word roster from ∷ hex_word body ∷ []

abbrev pub told_text : RosterView → OutLine → List ℕ
told_text roster l = line (words_of roster l)

-- a host's address, and its level's name
abbrev pub heading : RosterView → HostRow → List ℕ
heading roster row =
    line (codes "host" ∷ decimal row.address ∷ party_word roster (Manager row.partition) ∷ [])

-- a host's heading, and below it its lines
abbrev pub host_text : RosterView → HostRow → List OutLine → List ℕ
host_text roster row lines = heading roster row ++ flat_map (told_text roster) lines

-- what a host of this level is due: what the low part for its level tells it
abbrev pub due_lines : ScriptView → ℕ → Option Level → List OutLine
due_lines script address None = []
due_lines script address (Some level) = told (low level script) (Host address)

abbrev pub due_to : ScriptView → HostRow → List ℕ
due_to script row =
    host_text script.roster row
    (due_lines script row.address (level_of script.roster (Host row.address)))

abbrev pub rows_at : Option HostRow → List HostRow
rows_at None = []
rows_at (Some row) = row ∷ []

-- the hosts in rising order of address
unfoldable pub hosts_in_order : RosterView → List HostRow
hosts_in_order roster =
    flat_map (λ address. rows_at (host_row roster address)) (range_with_len 1 250)

-- the text of a script: what is due to each of its hosts
abbrev pub text : ScriptView → List ℕ
text script = flat_map (due_to script) (hosts_in_order script.roster)

-- the text of the hosts at or below a level
abbrev pub text_below : Level → ScriptView → List ℕ
text_below level script = flat_map (due_to script)
    (filter (λ row. is_low script.roster level (Host row.address)) (hosts_in_order script.roster))

-- a piece by its stream, its message's number and its own
abbrev pub piece_word : RosterView → FrameRow → List ℕ
piece_word roster row =
    party_word roster row.stream.from ++ codes ">" ++ party_word roster row.stream.to
    ++ codes "#" ++ decimal row.message ++ codes "." ++ decimal row.piece

abbrev pub frame_text : RosterView → FrameRow → List ℕ
frame_text roster row = line (piece_word roster row ∷ hex_word row.bytes ∷ [])

-- the wire of a script: a line for each of its frames
abbrev pub wire_text : ScriptView → List ℕ
wire_text script = flat_map (frame_text script.roster) (frames script)
