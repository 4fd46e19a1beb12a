-- The words that scripts and printed texts share.
use Rattle.std.specs.Prelude.{ℕ, List, [], ◌∷◌, codes, unwrap_or}
use Rattle.std.specs.Fmt.{decimal}
use Rattle.hex.specs.Hex.{encode_lower}
use Rattle.levels.specs.declared.level.Party.{Party}
use Rattle.levels.specs.declared.level.Party.TheVariants.{Host, Manager}
use Rattle.levels.specs.Rosters.{RosterView, name_at}

-- two hexadecimal digits a byte, lower case, or `-` for no bytes
abbrev pub hex_word : List ℕ → List ℕ
hex_word [] = codes "-"
hex_word (byte ∷ bytes) = encode_lower (byte ∷ bytes)

-- a host's address, or the name of a manager unit's level
abbrev pub party_word : RosterView → Party → List ℕ
party_word roster (Host address) = decimal address
party_word roster (Manager partition) = unwrap_or (name_at roster partition) []
