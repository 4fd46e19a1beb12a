-- The names of levels.
use Rattle.std.specs.Prelude.{ℕ, List, length, Bool, nat_le, nat_lt, slice_index, ◌&&◌, ◌||◌}
use Rattle.std.specs.List.{list_all}

-- `A` to `Z`
abbrev pub is_upper : ℕ → Bool
is_upper c = nat_le 65 c && nat_le c 90

-- `A` to `Z` or `0` to `9`
abbrev pub is_name_mark : ℕ → Bool
is_name_mark c = is_upper c || (nat_le 48 c && nat_le c 57)

-- one to eight characters, `A` to `Z` and then `A` to `Z` or `0` to `9`
abbrev pub is_level_name : List ℕ → Bool
is_level_name text =
    nat_lt 0 (length text) && nat_le (length text) 8 && is_upper (slice_index text 0)
    && list_all is_name_mark text
