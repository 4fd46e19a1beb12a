-- The key pairs of a roster: one of each level, and the guarantor's.
use Rattle.std.specs.Prelude.{ℕ, ◌+◌, List, [], ◌∷◌, ◌++◌, length, replicate, Bool, ◌||◌, nat_lt, Option, Some, None, if◌then◌else◌, slice_get}
use Rattle.std.specs.List.{flat_map, list_any}
use Rattle.std.specs.Cmp.Lexicographic.{pointwise}
use Rattle.std.proofs.Math.Bool.{beq}
use Rattle.seal_core.specs.declared.KeyPair.{KeyPair}
use Rattle.des_cbc.specs.Bits.{block_bits}
use Rattle.des_cbc.specs.Parity.{without_parity, weak_keys}
use Rattle.levels.specs.declared.level.Partition.{Partition}
use Rattle.levels.specs.declared.level.Sealing.{Sealing}
use Rattle.levels.specs.declared.level.Sealing.TheVariants.{Clear, Des}
use Rattle.levels.specs.Rosters.{RosterView}

-- ---- whose key pair is which

-- a key pair under clear sealing: eight zero bytes, and one byte eight times
abbrev pub clear_pair : ℕ → KeyPair
clear_pair byte = record { main = replicate 8 0; check = replicate 8 byte }

abbrev pub pair_under : Sealing → RosterView → ℕ → Option KeyPair
pair_under Clear roster place =
    if nat_lt place (length roster.levels) then Some (clear_pair (place + 1)) else None
pair_under Des roster place = slice_get roster.keys place

-- the key pair of a level, where it has one
abbrev pub keys_at : RosterView → Partition → Option KeyPair
keys_at roster partition = pair_under roster.sealing roster partition.0

abbrev pub guard_under : Sealing → RosterView → Option KeyPair
guard_under Clear roster = Some (clear_pair 255)
guard_under Des roster = roster.guard

-- the guarantor's key pair, where it has one
abbrev pub guard_of : RosterView → Option KeyPair
guard_of roster = guard_under roster.sealing roster

-- ---- which keys are refused

-- the keys of key pairs
abbrev pub keys_of : List KeyPair → List (List ℕ)
keys_of pairs = flat_map (λ pair. pair.main ∷ pair.check ∷ []) pairs

abbrev pub listed : Option KeyPair → List KeyPair
listed None = []
listed (Some pair) = pair ∷ []

-- all key pairs that were set: the guarantor's, and then those of the levels
abbrev pub pairs_of : RosterView → List KeyPair
pairs_of roster = listed roster.guard ++ roster.keys

-- whether two keys agree on all bits but the parity bits
abbrev pub is_same_key : List ℕ → List ℕ → Bool
is_same_key a b = pointwise beq (without_parity (block_bits a)) (without_parity (block_bits b))

-- whether a key is weak or the same as an earlier one
abbrev pub is_key_refused : List (List ℕ) → List ℕ → Bool
is_key_refused earlier key =
    list_any (is_same_key key) weak_keys || list_any (is_same_key key) earlier

-- whether one of two keys is weak, or the same as the other one or as an earlier one
abbrev pub is_pair_refused : List (List ℕ) → KeyPair → Bool
is_pair_refused earlier pair =
    is_key_refused earlier pair.main || is_key_refused earlier pair.check
    || is_same_key pair.main pair.check
