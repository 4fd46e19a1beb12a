-- What is left of all desks after a run.
use Rattle.std.specs.Prelude.{◌≡◌, ℕ, ◌<◌, List, [], length, map, take, true, false, Option, Some, None}
use Rattle.std.proofs.Math.ListN.{get_or}
use Rattle.levels.specs.declared.level.Party.{Party}
use Rattle.levels.specs.declared.level.Party.TheVariants.{Host}
use Rattle.events.specs.declared.event.Event.{Event}
use Rattle.events.specs.Scripts.{is_known}
use Rattle.unit_core.specs.Views.{TallyView}
use Rattle.machine.specs.declared.line.OutLine.{OutLine}
use Rattle.machine.specs.Setup.{Setup}
use Rattle.machine.specs.Machine.{state}
use Rattle.machine.specs.Wire.{wire}
use Rattle.desk.specs.Batches.{flush}
use Rattle.desk.specs.Deeds.{DeskState}
use Rattle.desk.specs.Desks.{tally_at}
use Rattle.desk.specs.Views.{DeskView}
use Rattle.desk.specs.Wires.{WireView}
use Rattle.engine.specs.Slots.{slot_of, HasSlot}
use Rattle.engine.specs.Turns.{batches}
use Rattle.engine.specs.States.{Stands, frames_by}
use Rattle.engine.specs.inside.Alone.{lines_in}
use Rattle.engine.specs.inside.Merging.{sealed_at}

-- what the unit of u counted is what it is at a state that is where the machine is
pub record WasCounted (m : Setup) (past : List Event) (u : Party) (tally : Option TallyView) :
    Type 0 where
  pub st : DeskState
  pub stands : Stands m past (state m past) u st
  pub is : tally ≡ Some (tally_at st (length (flush (batches m past u)).made))

-- what is left of the desks of a network that is where the machine is after a past
pub record IsClosed (m : Setup) (past : List Event) (lines : List (List OutLine))
    (wires : List (Option WireView)) (tallies : List (Option TallyView)) : Type 0 where
  pub told : (a : ℕ) → a < 256 → is_known m.roster (Host a) ≡ true
      → get_or lines a [] ≡ (state m past).told (Host a)
  pub untold : (a : ℕ) → a < 256 → is_known m.roster (Host a) ≡ false → get_or lines a [] ≡ []
  pub sealed : (u : Party) → HasSlot u → is_known m.roster u ≡ true
      → sealed_at wires (slot_of u) ≡ frames_by u (wire m past)
  pub counted : (u : Party) → HasSlot u → is_known m.roster u ≡ true
      → WasCounted m past u (get_or tallies (slot_of u) None)

-- ---- what is left of each desk

abbrev pub wire_left : Option DeskView → Option WireView
wire_left None = None
wire_left (Some desk) = Some desk.wire

abbrev pub tally_left : Option DeskView → Option TallyView
tally_left None = None
tally_left (Some desk) = Some desk.unit.tally

-- what the hosts of the addresses were told, whose slots are among these
abbrev pub lines_left : List (Option DeskView) → List (List OutLine)
lines_left desks = map lines_in (take 256 desks)
