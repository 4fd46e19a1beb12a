-- The reasons against lines, the first line of a text that is refused, and what a clean text says.
use Rattle.std.specs.Prelude.{◌≡◌, ◌≢◌, ◌⊎◌, ℕ, ◌+◌, ◌<◌, ◌≤◌, List, [], ◌∷◌, ◌++◌, length, Bool, true, false, not, ◌==◌, nat_lt, is_some, is_none, Option, Some, None, if◌then◌else◌}
use Rattle.std.specs.List.{AllByRecursion, flat_map}
use Rattle.levels.specs.declared.level.Partition.{Partition}
use Rattle.levels.specs.declared.level.Sealing.{Sealing}
use Rattle.levels.specs.declared.level.Sealing.TheVariants.{Clear, Des}
use Rattle.levels.specs.Rosters.{RosterView, level_named, is_taken, host_row}
use Rattle.levels.specs.Adding.{is_refused}
use Rattle.untrusted_store.specs.declared.plan.PlanRow.{PlanRow}
use Rattle.events.specs.declared.event.Event.{Event}
use Rattle.events.specs.Scripts.{is_named, is_row_named}
use Rattle.events.specs.ScriptView.{ScriptView}
use Rattle.script.specs.declared.read.TheConstants.{TEXT_LIMIT}
use Rattle.script.specs.declared.refusal.Reason.{Reason}
use Rattle.script.specs.declared.refusal.Reason.TheVariants.{Form, Place, Name, Twice, Many, Key, End}
use Rattle.script.specs.declared.refusal.Refusal.{Refusal}
use Rattle.script.specs.Lines.{Line}
use Rattle.script.specs.Lines as line
use Rattle.script.specs.Spelling.{line_text, ended_text}
use Rattle.script.specs.Ranges.{HasRanges}
use Rattle.script.specs.Naming.{event_named, row_named}
use Rattle.script.specs.Facts.{Kind, version_line, seal_line, level_line, key_line, guard_line, host_line, store_line, begin_line, event_line, end_line, kind_of, Facts, facts, script_said}

-- ---- the reason against a line

abbrev pub is_des : Sealing → Bool
is_des Clear = false
is_des Des = true

-- whether a level has no key pair so far
abbrev pub is_key_left : RosterView → Bool
is_key_left roster = nat_lt (length roster.keys) (length roster.levels)

-- Whether a line of a kind may stand behind one of another kind, or first. Behind the levels stand
-- their key pairs and the guarantor's under DES, and none under clear sealing.
abbrev pub may_follow : RosterView → Option Kind → Kind → Bool
may_follow roster None version_line = true
may_follow roster (Some version_line) seal_line = true
may_follow roster (Some version_line) level_line = true
may_follow roster (Some seal_line) level_line = true
may_follow roster (Some level_line) level_line = true
may_follow roster (Some level_line) key_line = is_des roster.sealing
may_follow roster (Some level_line) host_line = not (is_des roster.sealing)
may_follow roster (Some level_line) store_line = not (is_des roster.sealing)
may_follow roster (Some level_line) begin_line = not (is_des roster.sealing)
may_follow roster (Some key_line) key_line = is_key_left roster
may_follow roster (Some key_line) guard_line = not (is_key_left roster)
may_follow roster (Some guard_line) host_line = true
may_follow roster (Some guard_line) store_line = true
may_follow roster (Some guard_line) begin_line = true
may_follow roster (Some host_line) host_line = true
may_follow roster (Some host_line) store_line = true
may_follow roster (Some host_line) begin_line = true
may_follow roster (Some store_line) store_line = true
may_follow roster (Some store_line) begin_line = true
may_follow roster (Some begin_line) event_line = true
may_follow roster (Some begin_line) end_line = true
may_follow roster (Some event_line) event_line = true
may_follow roster (Some event_line) end_line = true
may_follow roster _ _ = false

-- whether it is a level's turn to get its key pair: the levels get theirs in their order
abbrev pub has_turn : RosterView → Option Partition → Bool
has_turn roster None = false
has_turn roster (Some partition) = partition.0 == length roster.keys

-- whether the roster has all that some row names
abbrev pub has_levels : RosterView → Option PlanRow → Bool
has_levels roster None = false
has_levels roster (Some row) = is_row_named roster row

-- whether the roster has all that some event names
abbrev pub has_parties : RosterView → Option Event → Bool
has_parties roster None = false
has_parties roster (Some event) = is_named roster event

-- whether all that the line names is defined above it, and a key line names the level whose turn it
-- is
abbrev pub has_names : Facts → Line → Bool
has_names so_far (line.Key level pair) =
    has_turn so_far.roster (level_named so_far.roster level)
has_names so_far (line.Host address level) = is_some (level_named so_far.roster level)
has_names so_far (line.Store reader action) =
    has_levels so_far.roster (row_named so_far.roster reader action)
has_names so_far (line.Event words) =
    has_parties so_far.roster (event_named so_far.roster words)
has_names so_far _ = true

-- whether what the line defines is new
abbrev pub is_new : Facts → Line → Bool
is_new so_far (line.Level name level) = not (is_taken so_far.roster name level)
is_new so_far (line.Host address level) = is_none (host_row so_far.roster address)
is_new so_far _ = true

-- whether there is room for what the line adds: for 16 levels, 64 hosts, 100,000 rows of the plan
-- and 100,000 events
abbrev pub has_room : Facts → Line → Bool
has_room so_far (line.Level name level) = nat_lt (length so_far.roster.levels) 16
has_room so_far (line.Host address level) = nat_lt (length so_far.roster.hosts) 64
has_room so_far (line.Store reader action) = nat_lt (length so_far.rows) 100000
has_room so_far (line.Event words) = nat_lt (length so_far.events) 100000
has_room so_far _ = true

-- whether neither key of the line is weak, or the same as the other one or as one above
abbrev pub has_good_keys : Facts → Line → Bool
has_good_keys so_far (line.Key level pair) = not (is_refused so_far.roster pair)
has_good_keys so_far (line.Guard pair) = not (is_refused so_far.roster pair)
has_good_keys so_far _ = true

-- the first reason against a line, read from it and what the lines above it say
unfoldable pub against : Facts → Line → Option Reason
against so_far line' =
    if not (may_follow so_far.roster so_far.last (kind_of line')) then Some Place
    else if not (has_names so_far line') then Some Name
    else if not (is_new so_far line') then Some Twice
    else if not (has_room so_far line') then Some Many
    else if not (has_good_keys so_far line') then Some Key
    else None

-- ---- texts

-- a text spells a line: it is the line's one spelling, and the line's ranges hold
abbrev pub Spells : List ℕ → Line → Type 0
Spells text line' = (text ≡ line_text line') × HasRanges line'

-- nothing is against any of the lines, each read with those above it
abbrev pub AreFree : List Line → Type 0
AreFree lines =
    (above : List Line) (line' : Line) (below : List Line)
    → lines ≡ above ++ line' ∷ below → against (facts above) line' ≡ None

-- a text begins with lines that nothing is against, and the rest stands behind them
pub record BeginsWith (bytes : List ℕ) (lines : List Line) (rest : List ℕ) : Type 0 where
  pub spelled : bytes ≡ flat_map ended_text lines ++ rest
  pub ranges : AllByRecursion HasRanges lines
  pub free : AreFree lines

-- What stands behind some lines is refused. For `form`: something stands there, but no text in
-- front of a newline that spells a line. For `end`: nothing stands there, and no line is `end`.
-- For another reason: the next text spells a line, and this is the first reason against it.
abbrev pub IsRefused : List Line → List ℕ → Reason → Type 0
IsRefused above rest Form =
    (rest ≢ [])
    × ((text more : List ℕ) (line' : Line) → rest ≡ text ++ 10 ∷ more → Spells text line' → ⊥)
IsRefused above rest End = (rest ≡ []) × ((facts above).ended ≡ false)
IsRefused above rest reason =
    (text : List ℕ) × (more : List ℕ) × (line' : Line) × (rest ≡ text ++ 10 ∷ more)
    × Spells text line' × (against (facts above) line' ≡ Some reason)

-- A text is refused at a line, counted from 1, for a reason: at line 0 where it is too long.
abbrev pub FirstRefusal : List ℕ → Refusal → Type 0
FirstRefusal bytes refusal =
    ((TEXT_LIMIT < length bytes) × (refusal ≡ record { line = 0; reason = Many }))
    ⊎ ((length bytes ≤ TEXT_LIMIT) × (above : List Line) × (rest : List ℕ)
    × (refusal.line ≡ length above + 1) × BeginsWith bytes above rest
    × IsRefused above rest refusal.reason)

-- a text is nothing but lines that nothing is against, with an `end`, and says the script
pub record IsScriptOf (bytes : List ℕ) (script : ScriptView) : Type 0 where
  pub short : length bytes ≤ TEXT_LIMIT
  pub lines : List Line
  pub read : BeginsWith bytes lines []
  pub ended : (facts lines).ended ≡ true
  pub says : script ≡ script_said lines

-- nothing in a text is refused
abbrev pub IsClean : List ℕ → Type 0
IsClean bytes = (script : ScriptView) × IsScriptOf bytes script
