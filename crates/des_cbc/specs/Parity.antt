-- Keys that are the same or weak. The last bit of each byte of a key is a parity bit and counts for
-- nothing.
use Rattle.std.specs.Prelude.{◌≡◌, ℕ, Bool, List, [], ◌∷◌, replicate, Any, ◌++◌}
use Rattle.des_cbc.specs.Bits.{block_bits}

-- the bits of a key but for the parity bits
unfoldable pub without_parity : List Bool → List Bool
without_parity (a ∷ b ∷ c ∷ d ∷ e ∷ f ∷ g ∷ parity ∷ rest) =
    a ∷ b ∷ c ∷ d ∷ e ∷ f ∷ g ∷ without_parity rest
without_parity _ = []

-- two keys agree on all bits but the parity bits
abbrev pub SameKey : List ℕ → List ℕ → Type 0
SameKey a b = without_parity (block_bits a) ≡ without_parity (block_bits b)

-- the four weak keys, whose round keys are all equal
abbrev pub weak_keys : List (List ℕ)
weak_keys =
    replicate 8 0x01
    ∷ replicate 8 0xfe
    ∷ (replicate 4 0xe0 ++ replicate 4 0xf1)
    ∷ (replicate 4 0x1f ++ replicate 4 0x0e)
    ∷ []

-- the same key as one of these
abbrev pub IsWeak : List ℕ → Type 0
IsWeak key = Any (SameKey key) weak_keys
