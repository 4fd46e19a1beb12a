-- What the engine knows of an event before it happens.
use Rattle.std.specs.Prelude.{◌≡◌, ◌⊎◌, ℕ, List, true, false, Some, None}
use Rattle.std.specs.List.{AllByRecursion}
use Rattle.levels.specs.declared.level.Party.{Party}
use Rattle.levels.specs.declared.level.Party.TheVariants.{Host}
use Rattle.events.specs.declared.event.Event.{Event}
use Rattle.events.specs.declared.event.Event.TheVariants.{Send, Ask, Arrive, Carry, Forge, Tamper}
use Rattle.events.specs.Scripts.{is_known}
use Rattle.net_side.specs.NetView.{NetView}
use Rattle.net_side.specs.Nets.{has_opened}
use Rattle.net_side.specs.declared.inbound.Inbound.{Inbound}
use Rattle.unit_core.specs.Hearing.{AreInbound}
use Rattle.machine.specs.Setup.{Setup}
use Rattle.machine.specs.Low.{place_of}
use Rattle.machine.specs.Sends.{sending_of}
use Rattle.machine.specs.Machine.{State, state}
use Rattle.machine.specs.FalseBytes.{OpensIn, IsSentFrame}
use Rattle.desk.specs.Batches.{Batches}
use Rattle.engine.specs.Handed.{handed_frames}
use Rattle.engine.specs.Turns.{partition_number, sends_join, frames_join, frames_alone, batches_by}
use Rattle.engine.specs.States.{NetIs}

-- bytes don't open in a partition
abbrev pub IsShut : Setup → Party → List ℕ → Type 0
IsShut m u bytes = ¬ OpensIn m (partition_number m u) bytes

-- bytes are a frame that was sent
pub record WasSent (m : Setup) (x : State) (bytes : List ℕ) : Type 0 where
  pub from : Party
  pub to : Party
  pub number : ℕ
  pub piece : ℕ
  pub is : IsSentFrame m x from to number piece bytes

abbrev pub AllShut : List Inbound → Type 0
AllShut ws = AllByRecursion (λ w. has_opened w ≡ false) ws

-- the frames of an event, which are this, are no false ones: forged bytes were sent or don't open,
-- and a changed frame doesn't open
abbrev pub Harmless : Setup → State → Event → List Inbound → Type 0
Harmless m x (Forge at bytes) ws = WasSent m x bytes ⊎ AllShut ws
Harmless m x (Tamper stream message piece at edits) ws = AllShut ws
Harmless m x (Send from to message) ws = Unit {0}
Harmless m x (Ask from call) ws = Unit {0}
Harmless m x (Arrive stream message piece at) ws = Unit {0}
Harmless m x (Carry stream message at) ws = Unit {0}

-- e is a send of host a
pub record IsSend (m : Setup) (e : Event) (a : ℕ) (to : Party) (message : List ℕ) : Type 0 where
  pub sending : sending_of m.roster e ≡ Some (record {
    from = Host a;
    to = to;
    message = message;
  })
  pub place : place_of e ≡ Host a
  pub known : is_known m.roster to ≡ true

-- what a send event does to batches: it joins that of its host
abbrev pub Joins : Setup → State → Event → ℕ → Party → List ℕ → Type 0
Joins m x e a to message = (u : Party) (b : Batches) → batches_by m x e u b
    ≡ sends_join m (Some (record { from = Host a; to = to; message = message })) u b

-- an event whose frames join the batch of a host
pub record IsJoin (m : Setup) (x : State) (e : Event) (from : Party) (a : ℕ) : Type 0 where
  pub sending : sending_of m.roster e ≡ None
  pub place : place_of e ≡ Host a
  pub joins : (u : Party) (b : Batches) → batches_by m x e u b ≡ frames_join m x e from u b
  pub harmless : (ws : List Inbound) → Harmless m x e ws

-- whatever unit frames come to, they are something to it
abbrev pub AreSomething : Setup → List Event → Event → Type 0
AreSomething m past e = (u : Party) (net : NetView) → NetIs m u net → is_known m.roster u ≡ true
    → (ws : List Inbound) × AreInbound m.sealed net (handed_frames m (state m past) e) ws

-- an event whose frames are a turn of their own
pub record IsAlone (m : Setup) (x : State) (e : Event) : Type 0 where
  pub sending : sending_of m.roster e ≡ None
  pub alone : (u : Party) (b : Batches) → batches_by m x e u b ≡ frames_alone m x e u b
