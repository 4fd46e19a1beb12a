-- Messages read field by field.
use Rattle.std.specs.Prelude.{ℕ, zero, suc, List, [], ◌∷◌, ◌++◌, length, take, drop, ◌&&◌, ◌==◌, nat_lt, nat_le, Option, None, Some, if◌then◌else◌, slice_index}
use Rattle.std.specs.Option.{option_map, option_and_then}
use Rattle.std.specs.Int.{w16, from_be_bytes}
use Rattle.file_calls.specs.declared.call.Call.{Call}
use Rattle.file_calls.specs.declared.call.Call.TheVariants.{Put, Get, List as ListNames, Remove, Append, GetBlock}
use Rattle.file_calls.specs.declared.call.Reply.{Reply}
use Rattle.file_calls.specs.declared.call.Reply.TheVariants.{Done, Bytes, Refused, Missing, Damaged, Full, Removed, Names, Bad, Block, Past}
use Rattle.file_calls.specs.Names.{name_of, content_of, are_rising}
use Rattle.file_calls.specs.Spelling.{name_at, behind_name, version_at, is_count}

-- the bytes of a name, and what is behind them
abbrev pub name_parts : List ℕ → Option (List ℕ × List ℕ)
name_parts bytes =
    if nat_lt (slice_index bytes 0) (length bytes) then Some (name_at bytes, behind_name bytes)
    else None

-- the bytes of a content, with nothing behind them
abbrev pub content_bytes : List ℕ → Option (List ℕ)
content_bytes bytes =
    if nat_le 2 (length bytes) && from_be_bytes w16 (take 2 bytes) == length (drop 2 bytes)
    then Some (drop 2 bytes) else None

-- a name and a content
abbrev pub file_in : List ℕ → Option (List ℕ × List ℕ)
file_in bytes = option_and_then (λ parts.
    option_and_then (λ content.
    option_and_then (λ name.
    option_map (λ content. (name, content)) (content_of content))
    (name_of parts.0))
    (content_bytes parts.1))
    (name_parts bytes)

-- a name with nothing behind it
abbrev pub name_in : List ℕ → Option (List ℕ)
name_in bytes =
    option_and_then (λ parts. if length parts.1 == 0 then name_of parts.0 else None)
    (name_parts bytes)

-- a level's number and a name
abbrev pub place_in : List ℕ → Option (ℕ × List ℕ)
place_in bytes = option_map (λ name. (slice_index bytes 0, name)) (name_in (drop 1 bytes))

-- the block's number that a text is
abbrev pub block_number : List ℕ → Option ℕ
block_number bytes =
    if length bytes == 1 && nat_le (slice_index bytes 0) 63 then Some (slice_index bytes 0)
    else None

-- a level's number with nothing behind it
abbrev pub level_in : List ℕ → Option ℕ
level_in bytes = if length bytes == 1 then Some (slice_index bytes 0) else None

-- a level's number, a name and a block's number
abbrev pub block_in : List ℕ → Option (ℕ × List ℕ × ℕ)
block_in bytes = option_and_then (λ parts.
    option_and_then (λ block.
    option_map (λ name. (slice_index bytes 0, name, block)) (name_of parts.0))
    (block_number parts.1))
    (name_parts (drop 1 bytes))

abbrev pub call_by : ℕ → List ℕ → Option Call
call_by kind fields =
    if kind == 1 then option_map (λ file. Put file.0 file.1) (file_in fields) else
    (if kind == 2 then option_map (λ place. Get place.0 place.1) (place_in fields) else
    (if kind == 3 then option_map (λ level. ListNames level) (level_in fields) else
    (if kind == 4 then option_map (λ name. Remove name) (name_in fields) else
    (if kind == 5 then option_map (λ file. Append file.0 file.1) (file_in fields) else
    (if kind == 6 then option_map (λ place. GetBlock place.0 place.1 place.2) (block_in fields)
    else None)))))

-- the call of a message, by its first byte
abbrev pub call_in : List ℕ → Option Call
call_in bytes = call_by (slice_index bytes 0) (drop 1 bytes)

-- a version, and what is behind it
abbrev pub version_parts : List ℕ → Option (ℕ × List ℕ)
version_parts bytes =
    if nat_le 8 (length bytes) then Some (version_at bytes, drop 8 bytes) else None

-- a version with nothing behind it
abbrev pub version_in : List ℕ → Option ℕ
version_in bytes =
    option_and_then (λ parts. if length parts.1 == 0 then Some parts.0 else None)
    (version_parts bytes)

-- a version and a content
abbrev pub bytes_in : List ℕ → Option (ℕ × List ℕ)
bytes_in bytes = option_and_then (λ parts.
    option_and_then (λ content.
    option_map (λ content. (parts.0, content)) (content_of content))
    (content_bytes parts.1))
    (version_parts bytes)

-- a version, a number of blocks and a content
abbrev pub counted_in : List ℕ → Option (ℕ × ℕ × List ℕ)
counted_in bytes = option_and_then (λ parts.
    if is_count (slice_index parts.1 0)
    then option_and_then (λ content.
    option_map (λ content. (parts.0, slice_index parts.1 0, content)) (content_of content))
    (content_bytes (drop 1 parts.1))
    else None)
    (version_parts bytes)

-- a number of blocks with nothing behind it
abbrev pub count_in : List ℕ → Option ℕ
count_in bytes =
    if length bytes == 1 && is_count (slice_index bytes 0) then Some (slice_index bytes 0) else None

-- so many names more, and nothing behind them
abbrev pub names_behind : ℕ → List (List ℕ) → List ℕ → Option (List (List ℕ))
names_behind zero names bytes = if length bytes == 0 then Some names else None
names_behind (suc count) names bytes = option_and_then (λ parts.
    option_and_then (λ name.
    if are_rising (names ++ name ∷ []) then names_behind count (names ++ name ∷ []) parts.1
    else None)
    (name_of parts.0))
    (name_parts bytes)

-- names behind their number
abbrev pub names_in : List ℕ → Option (List (List ℕ))
names_in bytes =
    if nat_lt 0 (length bytes) && nat_le (slice_index bytes 0) 128
    then names_behind (slice_index bytes 0) [] (drop 1 bytes) else None

-- a reply that has no fields
abbrev pub alone : List ℕ → Reply → Option Reply
alone fields reply = if length fields == 0 then Some reply else None

abbrev pub reply_by : ℕ → List ℕ → Option Reply
reply_by kind fields =
    if kind == 1 then option_map (λ version. Done version) (version_in fields) else
    (if kind == 2 then option_map (λ block. Bytes block.0 block.1) (bytes_in fields) else
    (if kind == 3 then alone fields Refused else
    (if kind == 4 then alone fields Missing else
    (if kind == 5 then option_map (λ version. Damaged version) (version_in fields) else
    (if kind == 6 then alone fields Full else
    (if kind == 7 then alone fields Removed else
    (if kind == 8 then option_map (λ names. Names names) (names_in fields) else
    (if kind == 9 then alone fields Bad else
    (if kind == 10 then option_map (λ block. Block block.0 block.1 block.2) (counted_in fields) else
    (if kind == 11 then option_map (λ count. Past count) (count_in fields)
    else None))))))))))

-- the reply of a message, by its first byte
abbrev pub reply_in : List ℕ → Option Reply
reply_in bytes = reply_by (slice_index bytes 0) (drop 1 bytes)
