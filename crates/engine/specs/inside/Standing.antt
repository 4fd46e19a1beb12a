-- The network: the desk of each party, the files of each level, and what was sent.
use Rattle.std.specs.Prelude.{◌≡◌, ℕ, ◌<◌, ◌&&◌, List, [], length, true, false, Option, Some, None}
use Rattle.std.proofs.Math.ListN.{get_or}
use Rattle.levels.specs.declared.level.Partition.{Partition}
use Rattle.levels.specs.declared.level.Party.{Party}
use Rattle.levels.specs.declared.level.Party.TheVariants.{Host, Manager}
use Rattle.levels.specs.Rosters.{RosterView, partition_of, is_same_party}
use Rattle.levels.specs.Keys.{keys_at}
use Rattle.seal_core.specs.Sealing.{Sealer}
use Rattle.events.specs.declared.event.Event.{Event}
use Rattle.events.specs.Scripts.{is_known}
use Rattle.planned_files.specs.FilesView.{FilesView}
use Rattle.planned_files.specs.Standing as planned
use Rattle.machine.specs.Setup.{Setup}
use Rattle.machine.specs.Machine.{state}
use Rattle.unit_core.specs.declared.rows.FrameKind.{FrameKind}
use Rattle.desk.specs.Batches.{Batches, no_batches, has_send, flush, flush_where, join_or_flush_send}
use Rattle.desk.specs.Views.{DeskView, no_batch}
use Rattle.desk.specs.Wires.{WireView, no_wire}
use Rattle.desk.specs.Deeds.{DeskState, says, outgoing, did}
use Rattle.desk.specs.Desks.{At, Moves, Hears, HearsAlone}
use Rattle.engine.specs.Slots.{slot_of, HasSlot}
use Rattle.engine.specs.Turns.{batches}
use Rattle.engine.specs.States.{NetIs, Stands}

abbrev pub desk_at : List (Option DeskView) → ℕ → Option DeskView
desk_at desks k = get_or desks k None

-- a manager unit's batch is never left open
abbrev pub IsIdleFor : Party → DeskView → Type 0
IsIdleFor (Host a) desk = Unit {0}
IsIdleFor (Manager p) desk = desk.batch ≡ no_batch

-- the desk of u is at a state of which something holds, with these batches
pub record DeskAt (m : Setup) (u : Party) (b : Batches) (P : DeskState → Type 0) (desk : DeskView) :
    Type 0 where
  pub known : is_known m.roster u ≡ true
  pub net : NetIs m u desk.unit.net
  pub st : DeskState
  pub at : At m.sealed desk st b
  pub is : P st

-- each party of the roster has such a desk, and nobody else has one
abbrev pub SlotAt : Setup → Party → Batches → (DeskState → Type 0) → Option DeskView → Type 0
SlotAt m u b P None = is_known m.roster u ≡ false
SlotAt m u b P (Some desk) = DeskAt m u b P desk

abbrev pub SlotIdle : Party → Option DeskView → Type 0
SlotIdle u None = Unit {0}
SlotIdle u (Some desk) = IsIdleFor u desk

-- all desks are where the machine is after a past
pub record DesksStand (m : Setup) (past : List Event) (desks : List (Option DeskView)) :
    Type 0 where
  pub at : (u : Party) → HasSlot u
      → SlotAt m u (batches m past u) (Stands m past (state m past) u) (desk_at desks (slot_of u))
  pub idle : (u : Party) → HasSlot u → SlotIdle u (desk_at desks (slot_of u))

-- ---- how slots change

abbrev pub SlotMoves : Sealer → (DeskState → DeskState) → (Batches → Batches)
    → Option DeskView → Option DeskView → Type 0
SlotMoves sealed f g None None = Unit {0}
SlotMoves sealed f g None (Some new) = ⊥
SlotMoves sealed f g (Some old) None = ⊥
SlotMoves sealed f g (Some old) (Some new) = Moves sealed f g old new

abbrev pub SlotHears : Sealer → List (List ℕ) → (Batches → Batches) → Option DeskView
    → Option DeskView → Type 0
SlotHears sealed frames g None None = Unit {0}
SlotHears sealed frames g None (Some new) = ⊥
SlotHears sealed frames g (Some old) None = ⊥
SlotHears sealed frames g (Some old) (Some new) = Hears sealed frames g old new

abbrev pub SlotHearsAlone : Sealer → List (List ℕ) → List FrameKind → Option DeskView
    → Option DeskView → Type 0
SlotHearsAlone sealed frames kinds None None = Unit {0}
SlotHearsAlone sealed frames kinds None (Some new) = ⊥
SlotHearsAlone sealed frames kinds (Some old) None = ⊥
SlotHearsAlone sealed frames kinds (Some old) (Some new) = HearsAlone sealed frames kinds old new

-- its batch has no send, so all that its party has sent is sealed
abbrev pub SlotSilent : Option DeskView → Type 0
SlotSilent None = Unit {0}
SlotSilent (Some desk) = desk.batch.sends ≡ []

abbrev pub SlotOpen : Option DeskView → Type 0
SlotOpen None = Unit {0}
SlotOpen (Some desk) = desk.batch ≡ no_batch

abbrev pub wire_in : Option DeskView → WireView
wire_in None = no_wire
wire_in (Some desk) = desk.wire

-- ---- where parties are

-- the partition of each party, by its slot
abbrev pub PlacesAre : RosterView → List (Option Partition) → Type 0
PlacesAre roster places = (u : Party) → HasSlot u
    → get_or places (slot_of u) None ≡ partition_of roster u

-- a message is sent at a slot
abbrev pub SlotSays : Sealer → Party → List ℕ → Option DeskView → Option DeskView → Type 0
SlotSays sealed to message None None = Unit {0}
SlotSays sealed to message None (Some new) = ⊥
SlotSays sealed to message (Some old) None = ⊥
SlotSays sealed to message (Some old) (Some new) =
    Moves sealed (λ st. did st (says to message))
    (join_or_flush_send (outgoing old.unit.host.partition to message)) old new

-- ---- the start

-- a setup has this roster, with the keys of each level, and this sealing
pub record SetupOf (m : Setup) (sealed : Sealer) (roster : RosterView) : Type 0 where
  pub roster_is : m.roster ≡ roster
  pub sealed_is : m.sealed ≡ sealed
  pub keys : (p : Partition) → p.0 < length roster.levels
      → keys_at roster p ≡ Some (m.keys p.0)

-- the desk of u before anything was sent
pub record StartsAt (m : Setup) (u : Party) (slot : Option DeskView) : Type 0 where
  pub at : SlotAt m u no_batches (Stands m [] (state m []) u) slot
  pub idle : SlotIdle u slot

-- the desks of all parties and the files of each level are where the machine is after a past
pub record NetworkStands (m : Setup) (past : List Event) (desks : List (Option DeskView))
    (files : FilesView) : Type 0 where
  pub desks_stand : DesksStand m past desks
  pub files_stand : planned.StandsFor m files (state m past).calls

-- ---- before frames come

-- the batch of a party is flushed where it has a send
abbrev pub readied : Party → Party → Batches → Batches
readied from u b = flush_where (is_same_party from u && has_send b) b

-- what a party has sent is sealed: its batch is flushed where it had a send
pub record Readied (m : Setup) (past : List Event) (from : Party)
    (desks : List (Option DeskView)) : Type 0 where
  pub at : (u : Party) → HasSlot u → SlotAt m u (readied from u (batches m past u))
      (Stands m past (state m past) u) (desk_at desks (slot_of u))
  pub idle : (u : Party) → HasSlot u → SlotIdle u (desk_at desks (slot_of u))
  pub silent : SlotSilent (desk_at desks (slot_of from))

-- all batches are flushed
pub record Flushed (m : Setup) (past : List Event) (desks : List (Option DeskView)) : Type 0 where
  pub at : (u : Party) → HasSlot u → SlotAt m u (flush (batches m past u))
      (Stands m past (state m past) u) (desk_at desks (slot_of u))
  pub opened : (u : Party) → HasSlot u → SlotOpen (desk_at desks (slot_of u))
