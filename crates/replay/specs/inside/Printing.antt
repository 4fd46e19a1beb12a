-- How a text for the hosts of a roster grows.
use Rattle.std.specs.Prelude.{ℕ, List, [], ◌∷◌, ◌++◌, length, map, sum, codes, Option, Some, None, if◌then◌else◌}
use Rattle.std.specs.List.{flat_map, range_with_len, count_by}
use Rattle.std.specs.Fmt.{decimal}
use Rattle.levels.specs.declared.level.Level.{Level}
use Rattle.levels.specs.declared.level.Party.TheVariants.{Host}
use Rattle.levels.specs.declared.rows.HostRow.{HostRow}
use Rattle.levels.specs.Rosters.{RosterView, host_row}
use Rattle.events.specs.ScriptView.{ScriptView}
use Rattle.machine.specs.declared.line.OutLine.{OutLine}
use Rattle.machine.specs.Low.{is_low}
use Rattle.machine.specs.Text.{due_to}
use Rattle.replay.specs.Summary.{is_sent, bodies}

-- what is written for a row, if there is one
abbrev pub at_row : (HostRow → List ℕ) → Option HostRow → List ℕ
at_row written None = []
at_row written (Some row) = written row

-- what is written for the hosts of the addresses from 1 up to the last, in rising order
unfoldable pub hosts_to : (HostRow → List ℕ) → RosterView → ℕ → List ℕ
hosts_to written roster last =
    flat_map (λ address. at_row written (host_row roster address)) (range_with_len 1 last)

-- what is due to a host that is at or below a level
abbrev pub due_below : Level → ScriptView → HostRow → List ℕ
due_below level script row =
    if is_low script.roster level (Host row.address) then due_to script row else []

-- the end of a host's line in a summary
abbrev pub counts_text : List OutLine → List ℕ
counts_text lines =
    codes " sent " ++ decimal (count_by is_sent lines)
    ++ codes " given " ++ decimal (length (bodies lines))
    ++ codes " bytes " ++ decimal (sum (map length (bodies lines))) ++ 10 ∷ []
