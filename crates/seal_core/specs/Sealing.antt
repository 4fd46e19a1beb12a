-- What a sealing is: one sealed text for each key pair, nonce and plain text.
use Rattle.std.specs.Prelude.{◌≡◌, ℕ, ◌+◌, List, length}
use Rattle.seal_core.specs.declared.KeyPair.{KeyPair}
use Rattle.seal_core.specs.Blocks.{AreBytes, IsBlock, IsPlain}

-- the sealed text of a nonce and a plain text under a key pair
abbrev pub Sealer : Type 0
Sealer = KeyPair → List ℕ → List ℕ → List ℕ

-- a text opens to a nonce and a plain text where it is their sealed text
pub record OpensTo (sealed : Sealer) (keys : KeyPair) (text nonce plain : List ℕ) : Type 0 where
  pub block : IsBlock nonce
  pub blocks : IsPlain plain
  pub same : text ≡ sealed keys nonce plain

-- what every sealing keeps
pub record IsSealing (sealed : Sealer) : Type 0 where
  -- the sealed text has 16 bytes more than the plain text
  pub longer : (keys : KeyPair) (nonce plain : List ℕ) → IsBlock nonce → IsPlain plain
      → length (sealed keys nonce plain) ≡ length plain + 16
  pub bytes : (keys : KeyPair) (nonce plain : List ℕ) → IsBlock nonce → IsPlain plain
      → AreBytes (sealed keys nonce plain)
  -- a text opens to one nonce and one plain text alone
  pub once : (keys : KeyPair) (text nonce plain nonce' plain' : List ℕ)
      → OpensTo sealed keys text nonce plain → OpensTo sealed keys text nonce' plain'
      → (nonce ≡ nonce') × (plain ≡ plain')
