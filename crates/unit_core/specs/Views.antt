-- A unit, what it is handed and what its turn fills, as callers see them.
use Rattle.std.specs.Prelude.{ℕ, List}
use Rattle.host_side.specs.HostView.{HostView}
use Rattle.net_side.specs.NetView.{NetView}
use Rattle.unit_core.specs.declared.rows.SendAnswer.{SendAnswer}
use Rattle.unit_core.specs.declared.rows.FrameKind.{FrameKind}
use Rattle.unit_core.specs.declared.rows.GivenRow.{GivenRow}

-- a message, and the address that it is sent to
pub record OutgoingView : Type 0 where
  pub to : ℕ
  pub message : List ℕ

-- the four numbers of a unit's turns
pub record TallyView : Type 0 where
  pub turns : ℕ
  pub sealed : ℕ
  pub ours : ℕ
  pub given : ℕ

-- a unit
pub record UnitView : Type 0 where
  -- the side that speaks to its host: next numbers, and what came
  pub host : HostView
  -- the side that speaks to the network: names and keys
  pub net : NetView
  pub tally : TallyView
  -- how many elements each of its lists has room for
  pub room : List ℕ

-- what a turn filled
pub record OutView : Type 0 where
  pub answers : List SendAnswer
  pub kinds : List FrameKind
  pub sealed : List (List ℕ)
  pub given : List GivenRow
  pub bodies : List ℕ
  -- how many elements each of its lists has room for
  pub room : List ℕ

-- a message that was given, and the index of the frame that completed it
pub record GivenMessage : Type 0 where
  pub frame : ℕ
  pub from : ℕ
  pub message : ℕ
  pub body : List ℕ
