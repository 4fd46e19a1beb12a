-- What the words of a call ask for.
use Rattle.std.specs.Prelude.{ℕ, ◌+◌, List, [], ◌∷◌, codes, find, Option, Some, None, if◌then◌else◌}
use Rattle.std.specs.List.{range_with_len}
use Rattle.std.specs.Str.{bytes_eq}
use Rattle.std.specs.Fmt.{decimal}
use Rattle.levels.specs.Names.{is_level_name}
use Rattle.script.specs.Naming.{◌>>=◌}
use Rattle.replay.specs.declared.command.Command.{Command}
use Rattle.replay.specs.declared.command.Command.TheVariants.{Check, Run, Twin, Drill}
use Rattle.replay.specs.declared.command.Shown.TheVariants.{Hosts, Wire}

-- what one word asks for
abbrev pub command_named : List ℕ → Option Command
command_named word =
    if bytes_eq word (codes "replay") then Some (Run Hosts)
    else if bytes_eq word (codes "check") then Some Check
    else if bytes_eq word (codes "wire") then Some (Run Wire)
    else None

-- the number, up to the greatest, that a word spells
unfoldable pub number_spelled : ℕ → List ℕ → Option ℕ
number_spelled most word = find (λ n. bytes_eq word (decimal n)) (range_with_len 0 (most + 1))

-- the twin at the level of a name, where a word has the form of one
abbrev pub twin_named : List ℕ → Option Command
twin_named level = if is_level_name level then Some (Twin level) else None

-- the drill of two words, where they spell a seed and a count
abbrev pub drill_named : List ℕ → List ℕ → Option Command
drill_named seed count = do
  seed ← number_spelled 2147483647 seed
  count ← number_spelled 20000 count
  Some (Drill seed count)

-- what the words ask for, if they have one of the forms
abbrev pub command_of : List (List ℕ) → Option Command
command_of (word ∷ []) = command_named word
command_of (word ∷ level ∷ []) =
    if bytes_eq word (codes "twin") then twin_named level else None
command_of (word ∷ seed ∷ count ∷ []) =
    if bytes_eq word (codes "drill") then drill_named seed count else None
command_of words = None

-- ---- what is read for a command

-- one script is read
abbrev pub IsOfOne : Command → Type 0
IsOfOne Check = Unit {0}
IsOfOne (Run shown) = Unit {0}
IsOfOne (Twin name) = ⊥
IsOfOne (Drill seed count) = ⊥

-- an input is read
abbrev pub Reads : Option Command → Type 0
Reads None = ⊥
Reads (Some Check) = Unit {0}
Reads (Some (Run shown)) = Unit {0}
Reads (Some (Twin name)) = Unit {0}
Reads (Some (Drill seed count)) = ⊥
