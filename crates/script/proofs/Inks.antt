-- The words of a line have no space and no newline.
use Rattle.std.proofs.Common.{zero, suc, ◌≡◌, ℕ, ◌^◌, ◌<◌, true, false, eqb, ltb, leb, ◌&&◌, List, [], ◌∷◌, ◌++◌, length, get_or, map, refl, arith, lit≤}
use Rattle.std.specs.Prelude.{slice_index}
use Rattle.std.specs.List.{All, AllByRecursion, list_all, join_with_byte}
use Rattle.std.specs.Char.{is_ascii_digit}
use Rattle.std.specs.Fmt.{decimal}
use Rattle.std.proofs.lemmas.List.Elements.{All-append, All-cons, All-nil, All-head, All-tail}
use Rattle.std.proofs.lemmas.List.Folds.{list_all-append}
use Rattle.std.proofs.lemmas.Bool.Decides.{nat_tests}
use Rattle.seal_core.specs.declared.KeyPair.{KeyPair}
use Rattle.events.specs.Words.{hex_word}
use Rattle.levels.specs.Names.{is_name_mark, is_upper}
use Rattle.levels.specs.Kept.{IsKeyPair}
use Rattle.file_calls.specs.Names.{is_name_mark as is_file_mark, is_byte}
use Rattle.file_calls.specs.ByteLaws.{are_bytes}
use Rattle.script.specs.declared.line.PartyWord.{PartyWord}
use Rattle.script.specs.declared.line.PartyWord.TheVariants.{Address, Name}
use Rattle.script.specs.declared.line.StreamWord.{StreamWord}
use Rattle.script.specs.Lines.{CallWords, EventWords, StoreWords, Line}
use Rattle.script.specs.Lines as line
use Rattle.script.specs.Spelling.{party_text, stream_text, numbers_text, piece_text, byte_text, edit_text, call_words, event_words, action_words, pair_words, line_words, line_text}
use Rattle.script.specs.Ranges.{IsAddress, IsLevelName, IsFileName, IsContent, IsMessageNumber, IsPieceNumber, HasPartyRange, HasStreamRanges, HasCallRanges, HasEventRanges, HasActionRanges, HasRanges}
use Rattle.script.proofs.Tools.{both, weaker, is_ink, IsInk, ink_lacks}
use Rattle.script.proofs.Numbers.{decimal_digits}
use Rattle.script.proofs.Letters.{cats_ink}
use Rattle.script.proofs.HexWords.{hex_ink}

-- ---- words

pub decimal_ink : (n : ℕ) → n < 2 ^ 64 → IsInk (decimal n)
decimal_ink n lt = weaker is_ascii_digit is_ink (λ c h. grind (arith, nat_tests)) (decimal n)
    (decimal_digits n lt)

pub name_ink : (word : List ℕ) → IsLevelName word → IsInk word
name_ink word fits =
    let b = both (ltb 0 (length word) && leb (length word) 8 && is_upper (get_or word 0 0))
    (list_all is_name_mark word) fits in
    weaker is_name_mark is_ink (λ c h. grind (arith, nat_tests)) word b.1

pub file_ink : (word : List ℕ) → IsFileName word → IsInk word
file_ink word fits =
    let b = both (ltb 0 (length word) && leb (length word) 32) (list_all is_file_mark word) fits in
    weaker is_file_mark is_ink (λ c h. grind (arith, nat_tests)) word b.1

pub content_ink : (bytes : List ℕ) → IsContent bytes → IsInk (hex_word bytes)
content_ink bytes fits =
    let b = both (leb (length bytes) 4096) (list_all is_byte bytes) fits in
    hex_ink bytes (are_bytes bytes b.1).below

address_ink : (address : ℕ) → IsAddress address → IsInk (decimal address)
address_ink address fits = decimal_ink address (omega (arith, fits.1))

message_ink : (number : ℕ) → IsMessageNumber number → IsInk (decimal number)
message_ink number fits = decimal_ink number (omega (arith, fits.1))

piece_ink : (number : ℕ) → IsPieceNumber number → IsInk (decimal number)
piece_ink number fits = decimal_ink number (omega (arith, fits.1))

pub party_ink : (party : PartyWord) → HasPartyRange party → IsInk (party_text party)
party_ink (Address address) fits = address_ink address fits
party_ink (Name level) fits = name_ink level fits

-- two words with a mark between them
joined_ink : (left : List ℕ) (mark : ℕ) (right : List ℕ) → IsInk left → ltb 32 mark ≡ true
    → IsInk right
    → IsInk (left ++ mark ∷ right)
joined_ink left mark right l m r = rw (list_all-append is_ink left (mark ∷ right), l, m, r) refl

stream_ink : (stream : StreamWord) → HasStreamRanges stream → IsInk (stream_text stream)
stream_ink stream fits =
    joined_ink (party_text stream.from) 62 (party_text stream.to) (party_ink stream.from fits.0)
    refl (party_ink stream.to fits.1)

named_ink : (stream : StreamWord) (message piece : ℕ) → HasStreamRanges stream → IsMessageNumber message
    → IsPieceNumber piece
    → IsInk (piece_text (stream, (message, piece)))
named_ink stream message piece s m p =
    let numbers = joined_ink (decimal message) 46 (decimal piece) (message_ink message m) refl
    (piece_ink piece p) in
    joined_ink (stream_text stream) 35 (numbers_text (message, piece)) (stream_ink stream s) refl
    numbers

one_byte : (byte : ℕ) → byte < 256 → (i : ℕ) → slice_index (byte ∷ []) i < 256
one_byte byte lt zero = lt
one_byte byte lt (suc i) = omega arith

pub byte_ink : (byte : ℕ) → byte < 256 → IsInk (byte_text byte)
byte_ink byte lt = hex_ink (byte ∷ []) (one_byte byte lt)

edits_ink : (edits : List (ℕ × ℕ)) → All (λ (e : ℕ × ℕ). e.0 < 128) edits
    → All (λ (e : ℕ × ℕ). (0 < e.1) × (e.1 < 256)) edits
    → AllByRecursion IsInk (map edit_text edits)
edits_ink [] offsets changes = tt
edits_ink (e ∷ edits) offsets changes =
    let offset = All-head (λ (e : ℕ × ℕ). e.0 < 128) e edits offsets in
    let change = All-head (λ (e : ℕ × ℕ). (0 < e.1) × (e.1 < 256)) e edits changes in
    let more = edits_ink edits (All-tail (λ (e : ℕ × ℕ). e.0 < 128) e edits offsets)
    (All-tail (λ (e : ℕ × ℕ). (0 < e.1) × (e.1 < 256)) e edits changes) in (
      joined_ink (decimal e.0) 94 (byte_text e.1) (decimal_ink e.0 (omega (arith, offset))) refl
          (byte_ink e.1 change.1),
      more,
    )

-- ---- lines

call_ink : (from : ℕ) (call : CallWords) → IsAddress from → HasCallRanges call
    → AllByRecursion IsInk (call_words from call)
call_ink from (line.Put name content) a fits =
    (refl, (address_ink from a, (file_ink name fits.0, (content_ink content fits.1, tt))))
call_ink from (line.Get level name) a fits =
    (refl, (address_ink from a, (name_ink level fits.0, (file_ink name fits.1, tt))))
call_ink from (line.ListNames level) a fits =
    (refl, (address_ink from a, (name_ink level fits, tt)))
call_ink from (line.Remove name) a fits = (refl, (address_ink from a, (file_ink name fits, tt)))
call_ink from (line.Append name content) a fits =
    (refl, (address_ink from a, (file_ink name fits.0, (content_ink content fits.1, tt))))
call_ink from (line.Block level name block) a fits =
    let number = decimal_ink block (omega (arith, fits.2.1)) in
    (refl, (address_ink from a, (name_ink level fits.0, (file_ink name fits.1, (number, tt)))))

event_ink : (words : EventWords) → HasEventRanges words → AllByRecursion IsInk (event_words words)
event_ink (line.Send from to message) fits =
    (refl, (address_ink from fits.0, (party_ink to fits.1, (hex_ink message fits.2.below, tt))))
event_ink (line.Ask from call) fits = call_ink from call fits.0 fits.1
event_ink (line.Deliver stream message piece at) fits =
    (refl, (named_ink stream message piece fits.0 fits.1 fits.2, (refl, (party_ink at fits.3, tt))))
event_ink (line.Carry stream message at) fits =
    let named = joined_ink (stream_text stream) 35 (decimal message) (stream_ink stream fits.0) refl
    (message_ink message fits.1) in
    (refl, (named, (refl, (party_ink at fits.2, tt))))
event_ink (line.Forge at bytes) fits =
    (refl, (party_ink at fits.0, (hex_ink bytes fits.2.below, tt)))
event_ink (line.Tamper stream message piece at edits) fits =
    let changed = edits_ink edits fits.4.offsets fits.4.changes in (
      refl,
      (
        named_ink stream message piece fits.0 fits.1 fits.2,
        (refl, (party_ink at fits.3, changed)),
      ),
    )

-- the numbers of an action are in the ranges of their types
abbrev pub IsHeldAction : StoreWords → Type 0
IsHeldAction (line.Of level version) = IsLevelName level × (version < 2 ^ 64)
IsHeldAction (line.Flip offset xor) = (offset < 2 ^ 32) × (xor < 256)
IsHeldAction _ = Unit {0}

-- a script that can be held may have the line: what stands in a row of its plan is in the ranges of
-- its types, the rest in its ranges
abbrev pub IsHeld : Line → Type 0
IsHeld (line.Store reader action) = IsLevelName reader × IsHeldAction action
IsHeld made = HasRanges made

held_action : (action : StoreWords) → HasActionRanges action → IsHeldAction action
held_action line.Honest fits = tt
held_action (line.Of level version) fits = (fits.0, omega (arith, fits.1.1))
held_action (line.Flip offset xor) fits = (omega (arith, fits.0.1), omega (arith, fits.1.1))
held_action line.Gone fits = tt

pub ranges_held : (made : Line) → HasRanges made → IsHeld made
ranges_held line.Version fits = fits
ranges_held line.Seal fits = fits
ranges_held (line.Level name level) fits = fits
ranges_held (line.Key level pair) fits = fits
ranges_held (line.Guard pair) fits = fits
ranges_held (line.Host address level) fits = fits
ranges_held (line.Store reader action) fits = (fits.0, held_action action fits.1)
ranges_held line.Begin fits = fits
ranges_held (line.Event words) fits = fits
ranges_held line.End fits = fits

action_ink : (action : StoreWords) → IsHeldAction action
    → AllByRecursion IsInk (action_words action)
action_ink line.Honest fits = (refl, tt)
action_ink (line.Of level version) fits =
    (refl, (name_ink level fits.0, (decimal_ink version fits.1, tt)))
action_ink (line.Flip offset xor) fits =
    (refl, (decimal_ink offset (omega (arith, fits.0)), (byte_ink xor fits.1, tt)))
action_ink line.Gone fits = (refl, tt)

pair_ink : (pair : KeyPair) → IsKeyPair pair → AllByRecursion IsInk (pair_words pair)
pair_ink pair is = (
  hex_ink pair.main is.main.bytes.below,
  (hex_ink pair.check is.check.bytes.below, tt),
)

pub words_ink : (made : Line) → IsHeld made → AllByRecursion IsInk (line_words made)
words_ink line.Version fits = (refl, (refl, tt))
words_ink line.Seal fits = (refl, (refl, tt))
words_ink (line.Level name level) fits = (
  refl,
  (
    name_ink name fits.0,
    (
      decimal_ink level.rank (omega (arith, fits.1.1)),
      (cats_ink level.cats, tt),
    ),
  ),
)
words_ink (line.Key level pair) fits = (refl, (name_ink level fits.0, pair_ink pair fits.1))
words_ink (line.Guard pair) fits = (refl, pair_ink pair fits)
words_ink (line.Host address level) fits =
    (refl, (address_ink address fits.0, (name_ink level fits.1, tt)))
words_ink (line.Store reader action) fits =
    (refl, (name_ink reader fits.0, action_ink action fits.1))
words_ink line.Begin fits = (refl, tt)
words_ink (line.Event words) fits = event_ink words fits
words_ink line.End fits = (refl, tt)

-- no newline stands in the text of a line
joined_lacks : (ws : List (List ℕ)) → AllByRecursion IsInk ws
    → All (λ c. eqb c 10 ≡ false) (join_with_byte 32 ws)
joined_lacks [] ink = All-nil (λ c. eqb c 10 ≡ false)
joined_lacks (w ∷ []) ink = ink_lacks 10 (lit≤ tt) w ink.0
joined_lacks (w ∷ v ∷ ws) ink =
    All-append (λ c. eqb c 10 ≡ false) w (32 ∷ join_with_byte 32 (v ∷ ws))
    (ink_lacks 10 (lit≤ tt) w ink.0)
    (All-cons (λ c. eqb c 10 ≡ false) 32 (join_with_byte 32 (v ∷ ws)) refl
    (joined_lacks (v ∷ ws) ink.1))

pub no_newline : (made : Line) → IsHeld made → All (λ c. eqb c 10 ≡ false) (line_text made)
no_newline made fits = joined_lacks (line_words made) (words_ink made fits)
