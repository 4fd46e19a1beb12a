-- What is due for the words of a call and its input: a status and a text.
use Rattle.std.specs.Prelude.{◌≢◌, ◌<◌, ◌≤◌, ◌⊎◌, ℕ, List, [], length, Option, Some, None}
use Rattle.std.specs.Io.KnownBytes.{Keeps, Appends, IsAtEnd}
use Rattle.dss_io.specs.Writing.{AppendsProperPrefix}
use Rattle.events.specs.ScriptView.{ScriptView}
use Rattle.events.specs.Scripts.{line_of}
use Rattle.script.specs.declared.read.TheConstants.{TEXT_LIMIT}
use Rattle.script.specs.declared.refusal.Refusal.{Refusal}
use Rattle.script.specs.Reasons.{FirstRefusal, IsScriptOf}
use Rattle.machine.specs.FalseBytes.{NoneFalse, IsFirstFalse}
use Rattle.machine.specs.Text.{text, wire_text}
use Rattle.replay.specs.declared.command.Command.{Command}
use Rattle.replay.specs.declared.command.Command.TheVariants.{Check, Run, Twin, Drill}
use Rattle.replay.specs.declared.command.Shown.{Shown}
use Rattle.replay.specs.declared.command.Shown.TheVariants.{Hosts, Wire}
use Rattle.replay.specs.declared.status.Status.{Status}
use Rattle.replay.specs.declared.status.Status.TheVariants.{Fine, Usage, Refused, ReadFault, WriteFault, Opened, OutOfMemory}
use Rattle.replay.specs.Words.{IsOfOne, Reads}
use Rattle.replay.specs.Lines.{refused_line, too_long, check_line, opened_line}
use Rattle.replay.specs.Twins.{IsCut, DueForTwins}
use Rattle.replay.specs.Summary.{drill_text}

-- what is shown of a script that was run: its text, or its wire
abbrev pub shown_text : Shown → ScriptView → List ℕ
shown_text Hosts script = text script
shown_text Wire script = wire_text script

-- the status and the text that are due for an input and what the words ask for, by cases
pub data Due (bytes : List ℕ) : Option Command → Status → List ℕ → Type 0 where
  -- the words have none of the forms
  usage : Due bytes None Usage []
  -- the input is too long
  long : (command : Command) → Reads (Some command) → TEXT_LIMIT < length bytes
      → Due bytes (Some command) (Refused too_long) (refused_line too_long)
  -- the input is no script
  refused : (command : Command) (refusal : Refusal) → IsOfOne command
      → length bytes ≤ TEXT_LIMIT → FirstRefusal bytes refusal
      → Due bytes (Some command) (Refused refusal) (refused_line refusal)
  -- the counts of a script
  checked : (script : ScriptView) → IsScriptOf bytes script
      → Due bytes (Some Check) Fine (check_line script)
  -- the first event of a script at which false bytes open, by its line
  opened : (shown : Shown) (script : ScriptView) (event : ℕ) → IsScriptOf bytes script
      → IsFirstFalse script event
      → Due bytes (Some (Run shown)) (Opened (line_of script event))
      (opened_line (line_of script event))
  -- what the lattice machine tells the hosts of a script, or its frames, where no false bytes open
  run : (shown : Shown) (script : ScriptView) → IsScriptOf bytes script
      → NoneFalse script (length script.events)
      → Due bytes (Some (Run shown)) Fine (shown_text shown script)
  -- what is due for the two scripts of an input
  twins : (name first second : List ℕ) (status : Status) (text : List ℕ)
      → length bytes ≤ TEXT_LIMIT → IsCut bytes first second
      → DueForTwins name first second status text → Due bytes (Some (Twin name)) status text
  -- the summary of a drill
  drilled : (seed count : ℕ) → Due bytes (Some (Drill seed count)) Fine (drill_text seed count)

-- something is due with this status, and all of its text was written
abbrev pub WritesAll :
    (Status → List ℕ → Type 0) → Status → Option (List ℕ) → Option (List ℕ) → Type 0
WritesAll due status old new = (written : List ℕ) × (due status written × Appends old new written)

-- something is due, and the beginning of its text was written, but not all of it
abbrev pub WritesBeginning :
    (Status → List ℕ → Type 0) → Option (List ℕ) → Option (List ℕ) → Type 0
WritesBeginning due old new =
    (status : Status) × ((written : List ℕ)
    × (due status written × AppendsProperPrefix old new written))

-- what was written of what is due, by the status with which a call ends
abbrev pub Delivers :
    (Status → List ℕ → Type 0) → Status → Option (List ℕ) → Option (List ℕ) → Type 0
Delivers due Fine old new = WritesAll due Fine old new
Delivers due Usage old new = WritesAll due Usage old new
Delivers due (Refused refusal) old new = WritesAll due (Refused refusal) old new
Delivers due ReadFault old new = Keeps old new
Delivers due WriteFault old new = WritesBeginning due old new
Delivers due (Opened line') old new = WritesAll due (Opened line') old new
Delivers due OutOfMemory old new = Keeps old new ⊎ WritesBeginning due old new

-- neither a fault nor want of memory
abbrev pub IsAnswer : Status → Type 0
IsAnswer Fine = Unit {0}
IsAnswer Usage = Unit {0}
IsAnswer (Refused refusal) = Unit {0}
IsAnswer ReadFault = ⊥
IsAnswer WriteFault = ⊥
IsAnswer (Opened line') = Unit {0}
IsAnswer OutOfMemory = ⊥

-- the input was read to its end where it is answered, unless it is too long
abbrev pub ReadsToEnd : Status → Option (List ℕ) → Type 0
ReadsToEnd Fine left = IsAtEnd left
ReadsToEnd (Refused refusal) left = refusal ≢ too_long → IsAtEnd left
ReadsToEnd (Opened line') left = IsAtEnd left
ReadsToEnd _ left = Unit {0}
