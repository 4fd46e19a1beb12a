-- The ranges in which the numbers and words of a line stand.
use Rattle.std.specs.Prelude.{◌≡◌, ℕ, ◌^◌, ◌<◌, ◌≤◌, List, length, true}
use Rattle.seal_core.specs.Blocks.{AreBytes}
use Rattle.levels.specs.Names.{is_level_name}
use Rattle.levels.specs.Kept.{IsKeyPair}
use Rattle.file_calls.specs.Names.{is_name, is_content}
use Rattle.events.specs.Edits.{AreEdits}
use Rattle.script.specs.declared.line.PartyWord.{PartyWord}
use Rattle.script.specs.declared.line.PartyWord.TheVariants.{Address, Name}
use Rattle.script.specs.declared.line.StreamWord.{StreamWord}
use Rattle.script.specs.Lines.{CallWords, EventWords, StoreWords, Line}
use Rattle.script.specs.Lines as line

-- from the lowest number to the highest
abbrev pub InRange : ℕ → ℕ → ℕ → Type 0
InRange low high n = (low ≤ n) × (n ≤ high)

abbrev pub IsAddress : ℕ → Type 0
IsAddress address = InRange 1 250 address

abbrev pub IsLevelName : List ℕ → Type 0
IsLevelName word = is_level_name word ≡ true

abbrev pub IsFileName : List ℕ → Type 0
IsFileName word = is_name word ≡ true

-- at most 4,096 bytes
abbrev pub IsContent : List ℕ → Type 0
IsContent bytes = is_content bytes ≡ true

-- a number of four bytes
abbrev pub IsMessageNumber : ℕ → Type 0
IsMessageNumber number = InRange 0 4294967295 number

-- a message has at most 64 pieces
abbrev pub IsPieceNumber : ℕ → Type 0
IsPieceNumber number = InRange 0 63 number

abbrev pub HasPartyRange : PartyWord → Type 0
HasPartyRange (Address address) = IsAddress address
HasPartyRange (Name level) = IsLevelName level

abbrev pub HasStreamRanges : StreamWord → Type 0
HasStreamRanges stream = HasPartyRange stream.from × HasPartyRange stream.to

abbrev pub HasCallRanges : CallWords → Type 0
HasCallRanges (line.Put name content) = IsFileName name × IsContent content
HasCallRanges (line.Get level name) = IsLevelName level × IsFileName name
HasCallRanges (line.ListNames level) = IsLevelName level
HasCallRanges (line.Remove name) = IsFileName name
HasCallRanges (line.Append name content) = IsFileName name × IsContent content
HasCallRanges (line.Block level name block) =
    IsLevelName level × IsFileName name × InRange 0 63 block

abbrev pub HasEventRanges : EventWords → Type 0
HasEventRanges (line.Send from to message) = IsAddress from × HasPartyRange to × AreBytes message
HasEventRanges (line.Ask from call) = IsAddress from × HasCallRanges call
HasEventRanges (line.Deliver stream message piece at) =
    HasStreamRanges stream × IsMessageNumber message × IsPieceNumber piece × HasPartyRange at
HasEventRanges (line.Carry stream message at) =
    HasStreamRanges stream × IsMessageNumber message × HasPartyRange at
HasEventRanges (line.Forge at bytes) = HasPartyRange at × (length bytes ≡ 128) × AreBytes bytes
HasEventRanges (line.Tamper stream message piece at edits) =
    HasStreamRanges stream × IsMessageNumber message × IsPieceNumber piece × HasPartyRange at
    × AreEdits edits

-- a version is counted from 1, and a byte is changed
abbrev pub HasActionRanges : StoreWords → Type 0
HasActionRanges (line.Of level version) =
    IsLevelName level × InRange 1 72057594037927935 version
HasActionRanges (line.Flip offset xor) = InRange 0 4294967295 offset × InRange 1 255 xor
HasActionRanges _ = Unit {0}

-- a rank is at most 7, and there are 16 categories
abbrev pub HasRanges : Line → Type 0
HasRanges (line.Level name level) =
    IsLevelName name × InRange 0 7 level.rank × (level.cats < 2 ^ 16)
HasRanges (line.Key level pair) = IsLevelName level × IsKeyPair pair
HasRanges (line.Guard pair) = IsKeyPair pair
HasRanges (line.Host address level) = IsAddress address × IsLevelName level
HasRanges (line.Store reader action) = IsLevelName reader × HasActionRanges action
HasRanges (line.Event words) = HasEventRanges words
HasRanges _ = Unit {0}
