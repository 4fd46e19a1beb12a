-- Frames that are a turn of their own, and what a manager unit does with the call that they give.
use Rattle.std.specs.Prelude.{◌≡◌, ◌≢◌, ℕ, ◌<◌, ◌≤◌, List, [], ◌∷◌, ◌++◌, length, vec_len, Option, Some, None, Result, Ok, Err}
use Rattle.levels.specs.declared.level.Party.{Party}
use Rattle.levels.specs.declared.level.Party.TheVariants.{Host, Manager}
use Rattle.seal_core.specs.Sealing.{Sealer}
use Rattle.events.specs.declared.event.Event.{Event}
use Rattle.net_side.specs.NetView.{NetView}
use Rattle.net_side.specs.declared.inbound.Inbound.{Inbound}
use Rattle.unit_core.specs.Hearing.{AreInbound}
use Rattle.planned_files.specs.FilesView.{FilesView}
use Rattle.planned_files.specs.Answers.{IsReply}
use Rattle.planned_files.specs.Standing as planned
use Rattle.machine.specs.declared.line.OutLine.{OutLine}
use Rattle.machine.specs.declared.line.OutLine.TheVariants.{Sent, Refused, From}
use Rattle.machine.specs.Setup.{Setup}
use Rattle.machine.specs.Low.{place_of}
use Rattle.machine.specs.Files.{CallRow}
use Rattle.machine.specs.Machine.{Message, call_row, given_to, state}
use Rattle.machine.specs.Wire.{wire}
use Rattle.machine.specs.FalseBytes.{IsFalseRecord}
use Rattle.desk.specs.Batches.{flush, join_or_flush_send, turn_alone}
use Rattle.desk.specs.Views.{DeskView}
use Rattle.desk.specs.Deeds.{says, outgoing, did}
use Rattle.desk.specs.Desks.{Moves}
use Rattle.engine.specs.Handed.{handed_frames}
use Rattle.engine.specs.Slots.{slot_of}
use Rattle.engine.specs.Turns.{batches}
use Rattle.engine.specs.States.{NetIs, StateIs, kept_lines, frames_by}
use Rattle.engine.specs.declared.alone.Reply.{Reply}
use Rattle.engine.specs.declared.halt.Halt.{Halt}
use Rattle.engine.specs.declared.halt.Halt.TheVariants.{Opened, OutOfMemory}
use Rattle.engine.specs.inside.Events.{Harmless}
use Rattle.engine.specs.inside.Standing.{desk_at, SlotAt, SlotOpen, Flushed}
use Rattle.engine.specs.inside.Arrivals.{came, lines_given}

-- whatever the frames of e are to the unit where it happens, they are no false ones
abbrev pub IsHarmless : Setup → List Event → Event → Type 0
IsHarmless m past e = (net : NetView) (ws : List Inbound) → NetIs m (place_of e) net
    → AreInbound m.sealed net (handed_frames m (state m past) e) ws → Harmless m (state m past) e ws

-- All batches were flushed; then the frames of e were a turn of the unit where it happens, which
-- has not replied yet.
pub record HeardAlone (m : Setup) (past : List Event) (e : Event)
    (desks : List (Option DeskView)) : Type 0 where
  pub before : List (Option DeskView)
  pub ready : Flushed m past before
  pub at : SlotAt m (place_of e)
      (turn_alone (handed_frames m (state m past) e) (batches m past (place_of e)))
      (StateIs m (came m e (state m past))
      (kept_lines (place_of e) ((state m past).told (place_of e))
      ++ lines_given (given_to m (state m past) e (place_of e)))
      (frames_by (place_of e) (wire m past)) (place_of e))
      (desk_at desks (slot_of (place_of e)))
  pub idle : SlotOpen (desk_at desks (slot_of (place_of e)))
  pub others : (k : ℕ) → k ≢ slot_of (place_of e) → desk_at desks k ≡ desk_at before k

-- ---- the call that a manager unit is given

abbrev pub lines_in : Option DeskView → List OutLine
lines_in None = []
lines_in (Some desk) = desk.lines

-- the message that the first line says was given
abbrev pub first_given : List OutLine → Option Message
first_given [] = None
first_given (From s body ∷ lines) = Some (record { from = s; body = body })
first_given (Sent to number ∷ lines) = None
first_given (Refused to why ∷ lines) = None

-- files keep a level's files, where a party is the manager unit of a level
abbrev pub HasFiles : Party → FilesView → Type 0
HasFiles (Host a) files = Unit {0}
HasFiles (Manager p) files = p.0 < length files.manager.levels

-- a call is answered: the files stand for it too, and this is the reply to its caller
pub record IsAnswered (m : Setup) (calls : List CallRow) (level : ℕ) (call : Message)
    (files : FilesView) (reply : Reply) : Type 0 where
  pub stands : planned.StandsFor m files (call_row level call ∷ calls)
  pub to : reply.to ≡ call.from
  pub is : IsReply m calls (call_row level call) reply.text.items

-- what a manager unit was given, if anything, is answered, or a false record opened
abbrev pub Answers : Setup → List CallRow → ℕ → Option Message → FilesView
    → Result (Option Reply) Halt → Type 0
Answers m calls level given files (Err OutOfMemory) = Unit {0}
Answers m calls level None files (Ok None) = planned.StandsFor m files calls
Answers m calls level (Some call) files (Ok (Some reply)) =
    IsAnswered m calls level call files reply
Answers m calls level (Some call) files (Err Opened) =
    IsFalseRecord m calls (call_row level call)
Answers m calls level None files (Ok (Some reply)) = ⊥
Answers m calls level None files (Err Opened) = ⊥
Answers m calls level (Some call) files (Ok None) = ⊥

-- a reply, if there is one, can be sent as a message
abbrev pub IsShort : Option Reply → Type 0
IsShort None = Unit {0}
IsShort (Some reply) = vec_len reply.text ≤ 5632

-- ---- the reply

-- a message is sent at a slot, and is a turn of its own
abbrev pub SlotPosts : Sealer → Party → List ℕ → Option DeskView → Option DeskView → Type 0
SlotPosts sealed to message None None = Unit {0}
SlotPosts sealed to message None (Some new) = ⊥
SlotPosts sealed to message (Some old) None = ⊥
SlotPosts sealed to message (Some old) (Some new) = Moves sealed (λ st. did st (says to message))
    (λ b. flush (join_or_flush_send (outgoing old.unit.host.partition to message) b)) old new
