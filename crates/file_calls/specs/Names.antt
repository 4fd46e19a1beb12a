-- Names and contents of files.
use Rattle.std.specs.Prelude.{ℕ, List, [], ◌∷◌, length, Bool, true, ◌&&◌, ◌||◌, ◌==◌, nat_lt, nat_le, Option, Some, None, if◌then◌else◌}
use Rattle.std.specs.List.{list_all}
use Rattle.std.specs.declared.cmp.Ordering.{Ordering}
use Rattle.std.specs.Ordering.{nat_cmp, is_lt}
use Rattle.std.specs.Cmp.Lexicographic.{slice_cmp}

abbrev pub is_byte : ℕ → Bool
is_byte number = nat_lt number 256

-- the byte order of names
abbrev pub name_cmp : List ℕ → List ℕ → Ordering
name_cmp = slice_cmp nat_cmp

-- `a` to `z`, `0` to `9`, `.`, `_` or `-`
abbrev pub is_name_mark : ℕ → Bool
is_name_mark byte =
    (nat_le 97 byte && nat_le byte 122) || (nat_le 48 byte && nat_le byte 57)
    || byte == 46 || byte == 95 || byte == 45

-- 1 to 32 such bytes
abbrev pub is_name : List ℕ → Bool
is_name name = nat_lt 0 (length name) && nat_le (length name) 32 && list_all is_name_mark name

-- at most 4,096 bytes
abbrev pub is_content : List ℕ → Bool
is_content content = nat_le (length content) 4096 && list_all is_byte content

-- each name is greater than the one before it
abbrev pub are_rising : List (List ℕ) → Bool
are_rising [] = true
are_rising (name ∷ []) = true
are_rising (name ∷ next ∷ rest) = is_lt (name_cmp name next) && are_rising (next ∷ rest)

-- at most 128 names, strictly rising
abbrev pub is_name_list : List (List ℕ) → Bool
is_name_list names = nat_le (length names) 128 && list_all is_name names && are_rising names

-- the text, where it is a name
abbrev pub name_of : List ℕ → Option (List ℕ)
name_of text = if is_name text then Some text else None

-- the bytes, where they are few enough
abbrev pub content_of : List ℕ → Option (List ℕ)
content_of bytes = if nat_le (length bytes) 4096 then Some bytes else None
