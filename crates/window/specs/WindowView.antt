-- What contracts see of a window.
use Rattle.std.specs.Prelude.{ℕ, List, Option}

-- a message that is whole: its number and its length
pub record Whole : Type 0 where
  pub message : ℕ
  pub length : ℕ

-- a message of which pieces are held: its number, and its places, each with its bytes or none
pub record HeldMessage : Type 0 where
  pub message : ℕ
  pub places : List (Option (List ℕ))

-- what is held of a partner
pub record PartnerView : Type 0 where
  -- the greatest number of a message of which a piece came
  pub newest : Option ℕ
  -- the greatest number of a message that was given
  pub given : Option ℕ
  -- the messages of which pieces are held
  pub held : List HeldMessage
  -- the message that waits to be handed out
  pub waiting : Option Whole

pub record WindowView : Type 0 where
  -- at each address from 0 what is held of the partner, or none where it is no partner's
  pub partners : List (Option PartnerView)
  -- how many elements each of its vectors has room for
  pub room : List ℕ
