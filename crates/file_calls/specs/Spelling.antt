-- How calls and replies are spelled in messages.
use Rattle.std.specs.Prelude.{ℕ, zero, suc, ◌^◌, ◌≤◌, List, [], ◌∷◌, ◌++◌, length, take, drop, Bool, true, ◌&&◌, nat_lt, nat_le, Option, find, slice_index}
use Rattle.std.specs.List.{flat_map}
use Rattle.std.specs.Int.{w16, w64, to_be_bytes, from_be_bytes}
use Rattle.std.specs.Str.{bytes_eq}
use Rattle.file_calls.specs.declared.call.Call.{Call}
use Rattle.file_calls.specs.declared.call.Call.TheVariants.{Put, Get, List as ListNames, Remove, Append, GetBlock}
use Rattle.file_calls.specs.declared.call.Reply.{Reply}
use Rattle.file_calls.specs.declared.call.Reply.TheVariants.{Done, Bytes, Refused, Missing, Damaged, Full, Removed, Names, Bad, Block, Past}
use Rattle.file_calls.specs.Names.{is_byte, is_name, is_content, is_name_list}

-- a name behind its length
abbrev pub name_text : List ℕ → List ℕ
name_text name = length name ∷ name

-- a content behind its length in two bytes
abbrev pub content_text : List ℕ → List ℕ
content_text content = to_be_bytes w16 (length content) ++ content

abbrev pub version_text : ℕ → List ℕ
version_text version = to_be_bytes w64 version

unfoldable pub call_text : Call → List ℕ
call_text (Put name content) = 1 ∷ (name_text name ++ content_text content)
call_text (Get level name) = 2 ∷ level ∷ name_text name
call_text (ListNames level) = 3 ∷ level ∷ []
call_text (Remove name) = 4 ∷ name_text name
call_text (Append name content) = 5 ∷ (name_text name ++ content_text content)
call_text (GetBlock level name block) = 6 ∷ level ∷ (name_text name ++ block ∷ [])

unfoldable pub reply_text : Reply → List ℕ
reply_text (Done version) = 1 ∷ version_text version
reply_text (Bytes version content) = 2 ∷ (version_text version ++ content_text content)
reply_text Refused = 3 ∷ []
reply_text Missing = 4 ∷ []
reply_text (Damaged version) = 5 ∷ version_text version
reply_text Full = 6 ∷ []
reply_text Removed = 7 ∷ []
reply_text (Names names) = 8 ∷ length names ∷ flat_map name_text names
reply_text Bad = 9 ∷ []
reply_text (Block version count content) =
    10 ∷ (version_text version ++ count ∷ content_text content)
reply_text (Past count) = 11 ∷ count ∷ []

-- each field in its range: a file has at most 64 blocks, numbered from 0
abbrev pub is_call : Call → Bool
is_call (Put name content) = is_name name && is_content content
is_call (Get level name) = is_byte level && is_name name
is_call (ListNames level) = is_byte level
is_call (Remove name) = is_name name
is_call (Append name content) = is_name name && is_content content
is_call (GetBlock level name block) = is_byte level && is_name name && nat_le block 63

abbrev pub is_version : ℕ → Bool
is_version version = nat_lt version (2 ^ 64)

abbrev pub is_count : ℕ → Bool
is_count count = nat_le 1 count && nat_le count 64

abbrev pub is_reply : Reply → Bool
is_reply (Done version) = is_version version
is_reply (Bytes version content) = is_version version && is_content content
is_reply Refused = true
is_reply Missing = true
is_reply (Damaged version) = is_version version
is_reply Full = true
is_reply Removed = true
is_reply (Names names) = is_name_list names
is_reply Bad = true
is_reply (Block version count content) = is_version version && is_count count && is_content content
is_reply (Past count) = is_count count

-- what the types leave open: a block's number is at most 63, and a number of blocks is 1 to 64
abbrev pub HasBlock : Call → Type 0
HasBlock (Put name content) = Unit {0}
HasBlock (Get level name) = Unit {0}
HasBlock (ListNames level) = Unit {0}
HasBlock (Remove name) = Unit {0}
HasBlock (Append name content) = Unit {0}
HasBlock (GetBlock level name block) = block ≤ 63

abbrev pub HasCount : Reply → Type 0
HasCount (Done version) = Unit {0}
HasCount (Bytes version content) = Unit {0}
HasCount Refused = Unit {0}
HasCount Missing = Unit {0}
HasCount (Damaged version) = Unit {0}
HasCount Full = Unit {0}
HasCount Removed = Unit {0}
HasCount (Names names) = Unit {0}
HasCount Bad = Unit {0}
HasCount (Block version count content) = (1 ≤ count) × (count ≤ 64)
HasCount (Past count) = (1 ≤ count) × (count ≤ 64)

-- whether the bytes are the spelling of the call
abbrev pub is_call_text : List ℕ → Call → Bool
is_call_text bytes call = bytes_eq bytes (call_text call) && is_call call

abbrev pub is_reply_text : List ℕ → Reply → Bool
is_reply_text bytes reply = bytes_eq bytes (reply_text reply) && is_reply reply

-- what stands where a name, what is behind it, and a version may stand
abbrev pub name_at : List ℕ → List ℕ
name_at bytes = take (slice_index bytes 0) (drop 1 bytes)

abbrev pub behind_name : List ℕ → List ℕ
behind_name bytes = drop (slice_index bytes 0) (drop 1 bytes)

abbrev pub names_at : ℕ → List ℕ → List (List ℕ)
names_at zero bytes = []
names_at (suc count) bytes = name_at bytes ∷ names_at count (behind_name bytes)

abbrev pub version_at : List ℕ → ℕ
version_at bytes = from_be_bytes w64 (take 8 bytes)

-- of each kind the call that has its fields at their places
abbrev pub calls_at : List ℕ → List Call
calls_at bytes =
    Put (name_at (drop 1 bytes)) (drop 2 (behind_name (drop 1 bytes)))
    ∷ Get (slice_index bytes 1) (name_at (drop 2 bytes))
    ∷ ListNames (slice_index bytes 1)
    ∷ Remove (name_at (drop 1 bytes))
    ∷ Append (name_at (drop 1 bytes)) (drop 2 (behind_name (drop 1 bytes)))
    ∷ GetBlock (slice_index bytes 1) (name_at (drop 2 bytes))
    (slice_index (behind_name (drop 2 bytes)) 0)
    ∷ []

abbrev pub replies_at : List ℕ → List Reply
replies_at bytes =
    Done (version_at (drop 1 bytes))
    ∷ Bytes (version_at (drop 1 bytes)) (drop 11 bytes)
    ∷ Refused
    ∷ Missing
    ∷ Damaged (version_at (drop 1 bytes))
    ∷ Full
    ∷ Removed
    ∷ Names (names_at (slice_index bytes 1) (drop 2 bytes))
    ∷ Bad
    ∷ Block (version_at (drop 1 bytes)) (slice_index bytes 9) (drop 12 bytes)
    ∷ Past (slice_index bytes 1)
    ∷ []

-- the call that the bytes spell, if they spell one
unfoldable pub call_of : List ℕ → Option Call
call_of bytes = find (is_call_text bytes) (calls_at bytes)

-- the reply that the bytes spell, if they spell one
unfoldable pub reply_of : List ℕ → Option Reply
reply_of bytes = find (is_reply_text bytes) (replies_at bytes)
