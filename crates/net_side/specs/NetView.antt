use Rattle.std.specs.Prelude.{ℕ, List, Bool}
use Rattle.seal_core.specs.declared.KeyPair.{KeyPair}

-- a network's side
pub record NetView : Type 0 where
  pub address : ℕ
  pub partition : ℕ
  -- the key pair of the partition
  pub keys : KeyPair
  -- of each address from 0 whether it is a partner's
  pub partners : List Bool
