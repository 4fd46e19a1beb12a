use Rattle.std.specs.Prelude.{ℕ, List, Option}
use Rattle.window.specs.WindowView.{WindowView}

-- a host's side
pub record HostView : Type 0 where
  pub address : ℕ
  pub partition : ℕ
  -- the next number of the stream to each address from 0, or none where it is no partner's
  pub streams : List (Option ℕ)
  -- what came
  pub window : WindowView
  -- how many elements each of its vectors has room for, those of the window among them
  pub room : List ℕ
