-- The turns of each unit. Its sends and frames wait in an open batch, which is flushed as one turn.
-- Throughout, m is the setup, x the state before an event, e the event, and b the batches of u.
use Rattle.std.specs.Prelude.{ℕ, List, [], ◌∷◌, length, filter, reverse, Bool, true, false, ◌&&◌, Option, Some, None, if◌then◌else◌}
use Rattle.levels.specs.declared.level.Party.{Party}
use Rattle.levels.specs.declared.level.Party.TheVariants.{Host, Manager}
use Rattle.levels.specs.Rosters.{partition_of, is_same_party}
use Rattle.file_calls.specs.Spelling.{reply_text}
use Rattle.events.specs.declared.event.Event.{Event}
use Rattle.events.specs.declared.event.Event.TheVariants.{Send, Ask, Arrive, Carry, Forge, Tamper}
use Rattle.events.specs.ScriptView.{ScriptView}
use Rattle.unit_core.specs.Views.{TallyView}
use Rattle.desk.specs.Batches.{Batch, Batches, no_batches, has_send, flush, flush_where, join_send, join_or_flush_send, join_or_flush, turn_alone}
use Rattle.desk.specs.Deeds.{outgoing}
use Rattle.machine.specs.Setup.{Setup, setup_of}
use Rattle.machine.specs.Low.{place_of}
use Rattle.machine.specs.Sends.{Sending, sending_of}
use Rattle.machine.specs.Files.{CallRow}
use Rattle.machine.specs.Plan.{reply}
use Rattle.machine.specs.Machine.{State, number_of, calls_by, state, end_of, arrivals_at, given_at}
use Rattle.machine.specs.Wire.{frames}
use Rattle.engine.specs.Handed.{handed_frames}

abbrev pub partition_number : Setup → Party → ℕ
partition_number m u = number_of (partition_of m.roster u)

-- a send of u joins its batch, after a flush where that has 4 sends
abbrev pub sends_join : Setup → Option Sending → Party → Batches → Batches
sends_join m None u b = b
sends_join m (Some y) u b =
    if is_same_party y.from u
    then join_or_flush_send (outgoing (partition_number m u) y.to y.message) b else b

-- Frames of a party come to a host. First the batch of that party is flushed where it has a send;
-- then they join the batch of the host, after a flush where it would pass 256 frames.
abbrev pub frames_join : Setup → State → Event → Party → Party → Batches → Batches
frames_join m x e from u b =
    (let ready = flush_where (is_same_party from u && has_send b) b in
    if is_same_party (place_of e) u then join_or_flush (handed_frames m x e) ready else ready)

-- each reply of a manager unit is one further turn
abbrev pub replies_turn : Setup → State → Party → List CallRow → Batches → Batches
replies_turn m x u [] b = b
replies_turn m x u (c ∷ calls) b = replies_turn m x u calls (flush (join_send
    (outgoing (partition_number m u) c.caller (reply_text (reply m x.calls c))) b))

-- All batches are flushed; then the frames are a turn of their unit, and so is its reply.
abbrev pub frames_alone : Setup → State → Event → Party → Batches → Batches
frames_alone m x e u b =
    if is_same_party (place_of e) u
    then replies_turn m x u (calls_by m x e) (turn_alone (handed_frames m x e) b) else flush b

abbrev pub is_manager : Party → Bool
is_manager (Host a) = false
is_manager (Manager p) = true

-- what e does to the batches of u: forged and changed frames, and all that comes to a manager unit,
-- are turns of their own
abbrev pub batches_by : Setup → State → Event → Party → Batches → Batches
batches_by m x (Send from to message) u b =
    sends_join m (sending_of m.roster (Send from to message)) u b
batches_by m x (Ask from call) u b = sends_join m (sending_of m.roster (Ask from call)) u b
batches_by m x (Arrive stream message piece at) u b =
    (let e = Arrive stream message piece at in
    if is_manager at then frames_alone m x e u b else frames_join m x e stream.from u b)
batches_by m x (Carry stream message at) u b =
    (let e = Carry stream message at in
    if is_manager at then frames_alone m x e u b else frames_join m x e stream.from u b)
batches_by m x (Forge at bytes) u b = frames_alone m x (Forge at bytes) u b
batches_by m x (Tamper stream message piece at edits) u b =
    frames_alone m x (Tamper stream message piece at edits) u b

-- the batches of u after the events of a past, which stand newest first
abbrev pub batches : Setup → List Event → Party → Batches
batches m [] u = no_batches
batches m (e ∷ past) u = batches_by m (state m past) e u (batches m past u)

-- all turns of a unit, in order: after the last event its batch is flushed
abbrev pub turns : ScriptView → Party → List Batch
turns script u =
    reverse (flush (batches (setup_of script) (reverse script.events) u)).made

-- ---- what a unit counts

-- how many turns a unit makes, how many frames it seals, how many frames of its turns are pieces to
-- it, and how many messages it gives
abbrev pub tally : ScriptView → Party → TallyView
tally script u = record {
  turns = length (turns script u);
  sealed = length (filter (λ row. is_same_party row.stream.from u) (frames script));
  ours = length (arrivals_at script.roster (end_of script) u);
  given = length (given_at script.roster (end_of script) u);
}
