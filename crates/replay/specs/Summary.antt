-- What is written of a drill that was run: a summary of its events, its frames and its hosts.
use Rattle.std.specs.Prelude.{ℕ, List, [], ◌∷◌, ◌++◌, length, map, sum, codes, Option, None, Some, Bool, true, false}
use Rattle.std.specs.List.{flat_map, filter_map, count_by}
use Rattle.std.specs.Fmt.{decimal}
use Rattle.levels.specs.declared.level.Party.TheVariants.{Host, Manager}
use Rattle.levels.specs.declared.rows.HostRow.{HostRow}
use Rattle.levels.specs.Rosters.{RosterView, level_of}
use Rattle.events.specs.ScriptView.{ScriptView}
use Rattle.events.specs.Words.{party_word}
use Rattle.machine.specs.declared.line.OutLine.{OutLine}
use Rattle.machine.specs.declared.line.OutLine.TheVariants.{Sent, Refused, From}
use Rattle.machine.specs.Text.{line, due_lines, hosts_in_order}
use Rattle.machine.specs.Wire.{frames}
use Rattle.drill.specs.Drills.{drill}

-- whether a line says that a send or a call was accepted
abbrev pub is_sent : OutLine → Bool
is_sent (Sent to message) = true
is_sent (Refused to why) = false
is_sent (From from body) = false

-- the message that a line gives, if it gives one
abbrev pub body_in : OutLine → Option (List ℕ)
body_in (Sent to message) = None
body_in (Refused to why) = None
body_in (From from body) = Some body

-- the messages that lines give
abbrev pub bodies : List OutLine → List (List ℕ)
bodies lines = filter_map body_in lines

-- a host's address and level, how many of its sends and calls were accepted, how many messages it
-- was given, and how many bytes these have
abbrev pub host_line : RosterView → HostRow → List OutLine → List ℕ
host_line roster row lines = line
    (codes "host" ∷ decimal row.address ∷ party_word roster (Manager row.partition)
    ∷ codes "sent" ∷ decimal (count_by is_sent lines)
    ∷ codes "given" ∷ decimal (length (bodies lines))
    ∷ codes "bytes" ∷ decimal (sum (map length (bodies lines))) ∷ [])

-- the line of a host of a script
abbrev pub line_of_host : ScriptView → HostRow → List ℕ
line_of_host script row =
    host_line script.roster row
    (due_lines script row.address (level_of script.roster (Host row.address)))

-- a line for each host of a script, in rising order of address
abbrev pub host_lines : ScriptView → List ℕ
host_lines script = flat_map (line_of_host script) (hosts_in_order script.roster)

-- the two numbers, how many events and frames, and the hosts' lines
abbrev pub summary : ℕ → ℕ → ScriptView → List ℕ
summary seed count script =
    line (codes "drill" ∷ decimal seed ∷ decimal count ∷ [])
    ++ line (codes "events" ∷ decimal (length script.events) ∷ [])
    ++ line (codes "frames" ∷ decimal (length (frames script)) ∷ [])
    ++ host_lines script

abbrev pub drill_text : ℕ → ℕ → List ℕ
drill_text seed count = summary seed count (drill seed count)
