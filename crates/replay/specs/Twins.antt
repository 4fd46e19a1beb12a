-- What is due for two scripts in one input, and the name of a level at which they are compared.
use Rattle.std.specs.Prelude.{◌≡◌, ◌≢◌, ℕ, ◌+◌, List, [], ◌∷◌, ◌++◌, length, codes, ◌==◌, Option, Some, None}
use Rattle.std.specs.List.{AllByRecursion, All, flat_map, count_by}
use Rattle.levels.specs.declared.level.Level.{Level}
use Rattle.levels.specs.Rosters.{RosterView, level_named, level_at}
use Rattle.events.specs.ScriptView.{ScriptView}
use Rattle.events.specs.Scripts.{line_of}
use Rattle.script.specs.declared.refusal.Refusal.{Refusal}
use Rattle.script.specs.Reasons.{FirstRefusal, IsClean, IsScriptOf}
use Rattle.machine.specs.FalseBytes.{NoneFalse, IsFirstFalse}
use Rattle.machine.specs.Low.{low}
use Rattle.machine.specs.Text.{line, text_below}
use Rattle.two_worlds.specs.Comparing.{AreApartAt}
use Rattle.replay.specs.declared.status.Status.{Status}
use Rattle.replay.specs.declared.status.Status.TheVariants.{Fine, Refused, Opened}
use Rattle.replay.specs.Lines.{refused_line, no_level, opened_line, apart_line}

-- ---- the two texts of an input

-- a text of one line: no newline stands in it
abbrev pub IsOneLine : List ℕ → Type 0
IsOneLine text = All (λ c. c ≢ 10) text

-- a line, and another than `end`
pub record IsOtherLine (text : List ℕ) : Type 0 where
  pub one : IsOneLine text
  pub other : text ≢ codes "end"

-- lines with their newlines
abbrev pub ended : List (List ℕ) → List ℕ
ended lines = flat_map (λ text. text ++ 10 ∷ []) lines

-- An input is cut behind its first line `end`; without one all of it is the first script's.
pub data IsCut (bytes : List ℕ) : List ℕ → List ℕ → Type 0 where
  behind_end : (above : List (List ℕ)) (first second : List ℕ)
      → AllByRecursion IsOtherLine above → first ≡ ended above ++ codes "end" ++ 10 ∷ []
      → bytes ≡ first ++ second → IsCut bytes first second
  without_end : (lines : List (List ℕ)) (rest : List ℕ) → AllByRecursion IsOtherLine lines
      → IsOneLine rest → bytes ≡ ended lines ++ rest → IsCut bytes bytes []

-- how many lines a text has: its newlines
abbrev pub line_count : List ℕ → ℕ
line_count text = count_by (λ c. c == 10) text

-- a refusal below some lines
abbrev pub below : ℕ → Refusal → Refusal
below above refusal = record refusal { line = above + refusal.line }

-- ---- what is due

-- the level of a name
abbrev pub level_of_name : RosterView → List ℕ → Option Level
level_of_name roster name = level_at roster (level_named roster name)

-- what is written where two scripts have one low part: the text of the hosts at or below the level
abbrev pub alike_text : Level → ScriptView → List ℕ
alike_text level script = line (codes "alike" ∷ []) ++ text_below level script

-- what is due for two scripts, the first of which has so many lines, by cases
pub data DueForScripts (name : List ℕ) (above : ℕ) (a b : ScriptView) :
    Status → List ℕ → Type 0 where
  -- the first has no level of the name
  unnamed : level_of_name a.roster name ≡ None
      → DueForScripts name above a b (Refused no_level) (refused_line no_level)
  -- their rosters differ, or their low parts
  apart : (level : Level) (place : ℕ) → level_of_name a.roster name ≡ Some level
      → AreApartAt level a b place
      → DueForScripts name above a b Fine (apart_line place)
  -- the first event of the first script at which false bytes open, by its line
  opened_first : (level : Level) (event : ℕ) → level_of_name a.roster name ≡ Some level
      → low level a ≡ low level b → IsFirstFalse a event
      → DueForScripts name above a b (Opened (line_of a event)) (opened_line (line_of a event))
  -- none in the first, and the first event of the second, by its line in the input
  opened_second : (level : Level) (event : ℕ) → level_of_name a.roster name ≡ Some level
      → low level a ≡ low level b → NoneFalse a (length a.events) → IsFirstFalse b event
      → DueForScripts name above a b (Opened (above + line_of b event))
      (opened_line (above + line_of b event))
  -- one low part, and no false bytes open
  alike : (level : Level) → level_of_name a.roster name ≡ Some level
      → low level a ≡ low level b
      → NoneFalse a (length a.events) → NoneFalse b (length b.events)
      → DueForScripts name above a b Fine (alike_text level a)

-- what is due for two texts, by cases
pub data DueForTwins (name first second : List ℕ) : Status → List ℕ → Type 0 where
  -- the first is no script
  first_refused : (refusal : Refusal) → FirstRefusal first refusal
      → DueForTwins name first second (Refused refusal) (refused_line refusal)
  -- the first is one, but the second is none
  second_refused : (refusal : Refusal) → IsClean first → FirstRefusal second refusal
      → DueForTwins name first second (Refused (below (line_count first) refusal))
      (refused_line (below (line_count first) refusal))
  -- both are scripts
  compared : (a b : ScriptView) (status : Status) (text : List ℕ)
      → IsScriptOf first a → IsScriptOf second b
      → DueForScripts name (line_count first) a b status text
      → DueForTwins name first second status text
