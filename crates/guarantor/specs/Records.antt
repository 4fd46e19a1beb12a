-- The sealed records of blocks of files.
use Rattle.std.specs.Prelude.{ℕ, ◌-◌, ◌%◌, List, [], ◌∷◌, ◌++◌, length, drop, replicate}
use Rattle.std.specs.Int.{w16, w64, to_be_bytes}
use Rattle.seal_core.specs.declared.KeyPair.{KeyPair}
use Rattle.seal_core.specs.Sealing.{Sealer}

-- bytes with zeros behind them, up to a multiple of eight
abbrev pub in_blocks : List ℕ → List ℕ
in_blocks bytes = bytes ++ replicate ((8 - length bytes % 8) % 8) 0

-- a name with zeros behind it, 32 bytes
abbrev pub name_field : List ℕ → List ℕ
name_field name = name ++ replicate (32 - length name) 0

-- the level and the version's low seven bytes
unfoldable pub record_nonce : ℕ → ℕ → List ℕ
record_nonce level version = level ∷ drop 1 (to_be_bytes w64 version)

-- the first 16 bytes of a record's plain text
abbrev pub record_head : ℕ → List ℕ → ℕ → ℕ → ℕ → List ℕ
record_head level name block version size =
    (level ∷ length name ∷ to_be_bytes w16 size) ++ (block ∷ 0 ∷ 0 ∷ 0 ∷ [])
    ++ to_be_bytes w64 version

-- the plain text of a record: of a level's file, with the block's number, version and content
unfoldable pub record_plain : ℕ → List ℕ → ℕ → ℕ → List ℕ → List ℕ
record_plain level name block version content =
    record_head level name block version (length content) ++ name_field name ++ in_blocks content

-- the record of a block
unfoldable pub record_of : Sealer → KeyPair → ℕ → List ℕ → ℕ → ℕ → List ℕ → List ℕ
record_of sealed keys level name block version content =
    sealed keys (record_nonce level version) (record_plain level name block version content)
