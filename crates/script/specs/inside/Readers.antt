-- The words of a line, and the line that they spell.
use Rattle.std.specs.Prelude.{◌≡◌, ℕ, zero, suc, ◌+◌, ◌*◌, ◌-◌, List, [], ◌∷◌, length, codes, Bool, true, false, nat_le, nat_lt, ◌==◌, ◌&&◌, ◌||◌, Option, Some, None, Result, Ok, Err, if◌then◌else◌}
use Rattle.std.specs.Borrow.{Bor}
use Rattle.std.specs.List.{slice_split, list_all}
use Rattle.std.specs.Str.{all_ascii_digits, bytes_eq}
use Rattle.seal_core.specs.declared.KeyPair.{KeyPair}
use Rattle.hex.specs.Hex.{decode_of}
use Rattle.hex.specs.declared.error.FromHexError.{FromHexError}
use Rattle.levels.specs.Names.{is_level_name}
use Rattle.file_calls.specs.Names.{name_of, content_of}
use Rattle.script.specs.declared.line.PartyWord.{PartyWord}
use Rattle.script.specs.declared.line.PartyWord.TheVariants.{Address, Name}
use Rattle.script.specs.declared.line.StreamWord.{StreamWord}
use Rattle.script.specs.declared.line.CallWords.{CallWords as CodedCall}
use Rattle.script.specs.declared.line.CallWords.TheVariants as coded_call
use Rattle.script.specs.declared.line.EventWords.{EventWords as CodedWords}
use Rattle.script.specs.declared.line.EventWords.TheVariants as coded_words
use Rattle.script.specs.declared.line.StoreWords.{StoreWords as CodedAction}
use Rattle.script.specs.declared.line.StoreWords.TheVariants as coded_action
use Rattle.script.specs.declared.line.Line.{Line as CodedLine}
use Rattle.script.specs.declared.line.Line.TheVariants as coded
use Rattle.script.specs.declared.refusal.Reason.TheVariants.{Form}
use Rattle.script.specs.declared.refusal.Stop.{Stop}
use Rattle.script.specs.declared.refusal.Stop.TheVariants.{Refused, OutOfMemory}
use Rattle.script.specs.Lines.{CallWords, EventWords, StoreWords, Line}
use Rattle.script.specs.Lines as line
use Rattle.script.specs.Naming.{◌>>=◌}
use Rattle.script.specs.Naming.{either}

-- ---- the lines that the code reads, as lines

abbrev pub call_meant : CodedCall → CallWords
call_meant (coded_call.Put name content) = line.Put name content
call_meant (coded_call.Get level name) = line.Get level name
call_meant (coded_call.List level) = line.ListNames level
call_meant (coded_call.Remove name) = line.Remove name
call_meant (coded_call.Append name content) = line.Append name content
call_meant (coded_call.Block level name block) = line.Block level name block

abbrev pub words_meant : CodedWords → EventWords
words_meant (coded_words.Send from to message) = line.Send from to message
words_meant (coded_words.Ask from call) = line.Ask from (call_meant call)
words_meant (coded_words.Deliver stream message piece at) = line.Deliver stream message piece at
words_meant (coded_words.Carry stream message at) = line.Carry stream message at
words_meant (coded_words.Forge at frame) = line.Forge at frame
words_meant (coded_words.Tamper stream message piece at edits) =
    line.Tamper stream message piece at edits

abbrev pub action_meant : CodedAction → StoreWords
action_meant coded_action.Honest = line.Honest
action_meant (coded_action.Of level version) = line.Of level version
action_meant (coded_action.Flip offset xor) = line.Flip offset xor
action_meant coded_action.Gone = line.Gone

abbrev pub meant : CodedLine → Line
meant coded.Version = line.Version
meant coded.Seal = line.Seal
meant (coded.Level name level) = line.Level name level
meant (coded.Keys level pair) = line.Key level pair
meant (coded.Guard pair) = line.Guard pair
meant (coded.Host address level) = line.Host address level
meant (coded.Store reader action) = line.Store reader (action_meant action)
meant coded.Begin = line.Begin
meant (coded.Event words) = line.Event (words_meant words)
meant coded.End = line.End

-- What a function gave is what the reading gives, each of its values seen by `view`.
abbrev pub Reads : {X Y : Type 0} → (X → Y) → Option X → Option Y → Type 0
Reads view (Some x) read = read ≡ Some (view x)
Reads view None read = read ≡ None

-- The same of a function that takes memory: it stops with `form` exactly where nothing is read.
abbrev pub Gives : {X Y : Type 0} → (X → Y) → Result X Stop → Option Y → Type 0
Gives view (Ok x) read = read ≡ Some (view x)
Gives view (Err (Refused reason)) read = (read ≡ None) × (reason ≡ Form)
Gives view (Err OutOfMemory) read = Unit {0}

-- the parts of a text between marks
abbrev pub parts_at : ℕ → List ℕ → List (List ℕ)
parts_at mark text = slice_split (λ c. c == mark) text

-- the words of a text, which are parted by one space
abbrev pub words : List ℕ → List (List ℕ)
words text = parts_at 32 text

-- the words behind the first one, where there are some
abbrev pub words_behind : Option (Bor (List ℕ)) → List (List ℕ)
words_behind None = []
words_behind (Some text) = words text.now

-- ---- words

-- the number that digits make behind the number read before them
abbrev pub value_on : ℕ → List ℕ → ℕ
value_on n [] = n
value_on n (digit ∷ digits) = value_on (n * 10 + (digit - 48)) digits

-- whether there is something, and no zero leads it
abbrev pub is_unpadded : List ℕ → Bool
is_unpadded [] = false
is_unpadded (c ∷ []) = true
is_unpadded (c ∷ d ∷ more) = if c == 48 then false else true

-- a number in a range
unfoldable pub number_read : ℕ → ℕ → List ℕ → Option ℕ
number_read low high word =
    if is_unpadded word && all_ascii_digits word && nat_le low (value_on 0 word)
    && nat_le (value_on 0 word) high then Some (value_on 0 word) else None

-- the name of a level
unfoldable pub name_read : List ℕ → Option (List ℕ)
name_read word = if is_level_name word then Some word else None

-- the categories of the letters in front, each of at most n letters once and rising, and what
-- stands behind them
unfoldable pub rising : ℕ → ℕ → List ℕ → ℕ × List ℕ
rising zero letter word = (0, word)
rising (suc n) letter [] = (0, [])
rising (suc n) letter (c ∷ word) =
    if c == letter then (1 + 2 * (rising n (letter + 1) word).0, (rising n (letter + 1) word).1)
    else (2 * (rising n (letter + 1) (c ∷ word)).0, (rising n (letter + 1) (c ∷ word)).1)

-- some categories with nothing behind them
abbrev pub whole : ℕ × List ℕ → Option ℕ
whole (cats, []) = if cats == 0 then None else Some cats
whole (cats, c ∷ more) = None

-- a set of categories
unfoldable pub cats_read : List ℕ → Option ℕ
cats_read word = if bytes_eq word (codes "-") then Some 0 else whole (rising 16 97 word)

abbrev pub address_read : List ℕ → Option PartyWord
address_read word = do
  address ← number_read 1 250 word
  Some (Address address)

abbrev pub manager_read : List ℕ → Option PartyWord
manager_read word = do
  level ← name_read word
  Some (Name level)

-- a party: a host by its address, or a manager unit by the name of its level
unfoldable pub party_read : List ℕ → Option PartyWord
party_read word = either (address_read word) (manager_read word)

abbrev pub is_lower_digit : ℕ → Bool
is_lower_digit c = (nat_le 48 c && nat_le c 57) || (nat_le 97 c && nat_le c 102)

abbrev pub decoded : Result (List ℕ) FromHexError → Option (List ℕ)
decoded (Ok bytes) = Some bytes
decoded (Err e) = None

-- the bytes of a message
unfoldable pub hex_read : List ℕ → Option (List ℕ)
hex_read word =
    if bytes_eq word (codes "-") then Some []
    else if list_all is_lower_digit word && nat_lt 0 (length word) then decoded (decode_of word)
    else None

-- the bytes, where they are so many
abbrev pub sized : ℕ → List ℕ → Option (List ℕ)
sized size bytes = if length bytes == size then Some bytes else None

-- so many bytes
unfoldable pub sized_read : ℕ → List ℕ → Option (List ℕ)
sized_read size word = do
  bytes ← hex_read word
  sized size bytes

-- the content of a file
unfoldable pub content_read : List ℕ → Option (List ℕ)
content_read word = do
  bytes ← hex_read word
  content_of bytes

-- a first byte other than 0
abbrev pub change_of : List ℕ → Option ℕ
change_of [] = None
change_of (xor ∷ bytes) = if nat_lt 0 xor then Some xor else None

-- what a byte is changed by
unfoldable pub change_read : List ℕ → Option ℕ
change_read word = do
  bytes ← sized_read 1 word
  change_of bytes

-- one word that is the given one
abbrev pub exactly : {A : Type 0} → List ℕ → A → List ℕ → Option A
exactly text x word = if bytes_eq word text then Some x else None

abbrev pub as_one : List (List ℕ) → Option (List ℕ)
as_one (a ∷ []) = Some a
as_one _ = None

abbrev pub as_two : List (List ℕ) → Option (List ℕ × List ℕ)
as_two (a ∷ b ∷ []) = Some (a, b)
as_two _ = None

abbrev pub as_three : List (List ℕ) → Option (List ℕ × List ℕ × List ℕ)
as_three (a ∷ b ∷ c ∷ []) = Some (a, b, c)
as_three _ = None

abbrev pub as_four : List (List ℕ) → Option (List ℕ × List ℕ × List ℕ × List ℕ)
as_four [] = None
as_four (a ∷ texts) = do
  triple ← as_three texts
  Some (a, triple.0, triple.1, triple.2)

-- a word of two parts with a mark between them
abbrev pub parted : {A B C : Type 0} → ℕ → (List ℕ → Option A) → (List ℕ → Option B)
    → (A → B → C) → List ℕ → Option C
parted mark f g make word = do
  parts ← as_two (parts_at mark word)
  x ← f parts.0
  y ← g parts.1
  Some (make x y)

abbrev pub stream : PartyWord → PartyWord → StreamWord
stream from to = record { from = from; to = to }

abbrev pub together : {A B : Type 0} → A → B → A × B
together x y = (x, y)

unfoldable pub stream_read : List ℕ → Option StreamWord
stream_read = parted 62 party_read party_read stream

unfoldable pub message_read : List ℕ → Option (StreamWord × ℕ)
message_read = parted 35 stream_read (number_read 0 4294967295) together

unfoldable pub numbers_read : List ℕ → Option (ℕ × ℕ)
numbers_read = parted 46 (number_read 0 4294967295) (number_read 0 63) together

unfoldable pub piece_read : List ℕ → Option (StreamWord × (ℕ × ℕ))
piece_read = parted 35 stream_read numbers_read together

-- one edit, at the least offset or a later one
unfoldable pub edit_read : ℕ → List ℕ → Option (ℕ × ℕ)
edit_read least = parted 94 (number_read least 127) change_read together

-- at most so many edits, whose offsets rise from the least one
unfoldable pub edits_read : ℕ → ℕ → List (List ℕ) → Option (List (ℕ × ℕ))
edits_read room least [] = Some []
edits_read zero least (word ∷ words) = None
edits_read (suc room) least (word ∷ words) = do
  edit ← edit_read least word
  edits ← edits_read room (edit.0 + 1) words
  Some (edit ∷ edits)

-- ---- lines: what stands behind the first word

abbrev pub nothing : {R : Type 0} → R → List (List ℕ) → Option R
nothing made [] = Some made
nothing made (a ∷ more) = None

abbrev pub one : {A R : Type 0} → (List ℕ → Option A) → (A → R)
    → List (List ℕ) → Option R
one f make args = do
  word ← as_one args
  x ← f word
  Some (make x)

abbrev pub two : {A B R : Type 0} → (List ℕ → Option A) → (List ℕ → Option B) → (A → B → R)
    → List (List ℕ) → Option R
two f g make args = do
  pair ← as_two args
  x ← f pair.0
  y ← g pair.1
  Some (make x y)

abbrev pub three : {A B C R : Type 0} → (List ℕ → Option A) → (List ℕ → Option B)
    → (List ℕ → Option C) → (A → B → C → R) → List (List ℕ) → Option R
three f g h make args = do
  triple ← as_three args
  x ← f triple.0
  y ← g triple.1
  z ← h triple.2
  Some (make x y z)

abbrev pub four : {A B C D R : Type 0} → (List ℕ → Option A) → (List ℕ → Option B)
    → (List ℕ → Option C) → (List ℕ → Option D) → (A → B → C → D → R) → List (List ℕ) → Option R
four f g h k make args = do
  all ← as_four args
  w ← f all.0
  x ← g all.1
  y ← h all.2
  z ← k all.3
  Some (make w x y z)

-- what is read of the words behind a first one
abbrev pub FormReader : Type 0 → Type 0
FormReader R = List (List ℕ) → Option R

-- the form of the first word, or what else is read
abbrev pub read_by : {R : Type 0} → List (List ℕ × FormReader R) → (List ℕ → FormReader R)
    → List ℕ → FormReader R
read_by [] other first args = other first args
read_by (form ∷ more) other first args =
    if bytes_eq first form.0 then form.1 args else read_by more other first args

abbrev pub nowhere : {R : Type 0} → List ℕ → FormReader R
nowhere first args = None

-- ---- what the store does

abbrev pub of_form : FormReader StoreWords
of_form =
    two name_read (number_read 1 72057594037927935) (λ level version. line.Of level version)

abbrev pub flip_form : FormReader StoreWords
flip_form = two (number_read 0 4294967295) change_read (λ offset xor. line.Flip offset xor)

abbrev pub actions : List (List ℕ × FormReader StoreWords)
actions =
    (codes "true", nothing line.Honest) ∷ (codes "of", of_form) ∷ (codes "flip", flip_form)
    ∷ (codes "gone", nothing line.Gone) ∷ []

unfoldable pub action_read : FormReader StoreWords
action_read [] = None
action_read (first ∷ args) = read_by actions nowhere first args

-- ---- what a host asks

abbrev pub asked : ℕ → CallWords → Line
asked from call = line.Event (line.Ask from call)

unfoldable pub put_form : FormReader Line
put_form =
    three (number_read 1 250) name_of content_read
    (λ from name content. asked from (line.Put name content))

unfoldable pub get_form : FormReader Line
get_form =
    three (number_read 1 250) name_read name_of
    (λ from level name. asked from (line.Get level name))

unfoldable pub list_form : FormReader Line
list_form = two (number_read 1 250) name_read (λ from level. asked from (line.ListNames level))

unfoldable pub remove_form : FormReader Line
remove_form = two (number_read 1 250) name_of (λ from name. asked from (line.Remove name))

unfoldable pub append_form : FormReader Line
append_form =
    three (number_read 1 250) name_of content_read
    (λ from name content. asked from (line.Append name content))

unfoldable pub block_form : FormReader Line
block_form =
    four (number_read 1 250) name_read name_of (number_read 0 63)
    (λ from level name block. asked from (line.Block level name block))

abbrev pub call_forms : List (List ℕ × FormReader Line)
call_forms =
    (codes "put", put_form) ∷ (codes "get", get_form) ∷ (codes "list", list_form)
    ∷ (codes "remove", remove_form) ∷ (codes "append", append_form)
    ∷ (codes "block", block_form) ∷ []

unfoldable pub call_read : List ℕ → FormReader Line
call_read = read_by call_forms nowhere

-- ---- what else happens

unfoldable pub send_form : FormReader Line
send_form =
    three (number_read 1 250) party_read hex_read
    (λ from to message. line.Event (line.Send from to message))

unfoldable pub deliver_form : FormReader Line
deliver_form =
    three piece_read (exactly (codes "to") (tt {0})) party_read
    (λ piece to at. line.Event (line.Deliver piece.0 piece.1.0 piece.1.1 at))

unfoldable pub carry_form : FormReader Line
carry_form =
    three message_read (exactly (codes "to") (tt {0})) party_read
    (λ message to at. line.Event (line.Carry message.0 message.1 at))

unfoldable pub forge_form : FormReader Line
forge_form = two party_read (sized_read 128) (λ at bytes. line.Event (line.Forge at bytes))

unfoldable pub tamper_form : FormReader Line
tamper_form (piece ∷ to ∷ at ∷ edit ∷ edits) = do
  piece ← piece_read piece
  to ← exactly (codes "to") (tt {0}) to
  at ← party_read at
  edits ← edits_read 8 0 (edit ∷ edits)
  Some (line.Event (line.Tamper piece.0 piece.1.0 piece.1.1 at edits))
tamper_form _ = None

abbrev pub event_forms : List (List ℕ × FormReader Line)
event_forms =
    (codes "send", send_form) ∷ (codes "deliver", deliver_form) ∷ (codes "carry", carry_form)
    ∷ (codes "forge", forge_form) ∷ (codes "tamper", tamper_form) ∷ []

unfoldable pub event_read : List ℕ → FormReader Line
event_read = read_by event_forms call_read

-- ---- all lines

abbrev pub key_pair : List ℕ → List ℕ → KeyPair
key_pair main check = record { main = main; check = check }

unfoldable pub version_form : FormReader Line
version_form = one (exactly (codes "1") line.Version) (λ made. made)

unfoldable pub seal_form : FormReader Line
seal_form = one (exactly (codes "des") line.Seal) (λ made. made)

unfoldable pub level_form : FormReader Line
level_form =
    three name_read (number_read 0 7) cats_read
    (λ name rank cats. line.Level name (record { rank = rank; cats = cats }))

unfoldable pub key_form : FormReader Line
key_form =
    three name_read (sized_read 8) (sized_read 8)
    (λ level main check. line.Key level (key_pair main check))

unfoldable pub guard_form : FormReader Line
guard_form = two (sized_read 8) (sized_read 8) (λ main check. line.Guard (key_pair main check))

unfoldable pub host_form : FormReader Line
host_form = two (number_read 1 250) name_read (λ address level. line.Host address level)

unfoldable pub store_form : FormReader Line
store_form [] = None
store_form (reader ∷ args) = do
  reader ← name_read reader
  action ← action_read args
  Some (line.Store reader action)

abbrev pub line_forms : List (List ℕ × FormReader Line)
line_forms =
    (codes "dss", version_form) ∷ (codes "seal", seal_form) ∷ (codes "level", level_form)
    ∷ (codes "key", key_form) ∷ (codes "guard", guard_form) ∷ (codes "host", host_form)
    ∷ (codes "store", store_form) ∷ (codes "begin", nothing line.Begin)
    ∷ (codes "end", nothing line.End) ∷ []

-- the line of some words: each form by its first word
unfoldable pub form_read : FormReader Line
form_read [] = None
form_read (first ∷ args) = read_by line_forms event_read first args

-- the line that a text spells
abbrev pub line_read : List ℕ → Option Line
line_read text = form_read (words text)
