-- How an event ends.
use Rattle.std.specs.Prelude.{◌≡◌, ℕ, List, [], ◌∷◌, ◌&&◌, length, true, Option, Some, None, Result, Ok, Err, if◌then◌else◌}
use Rattle.levels.specs.declared.level.Party.{Party}
use Rattle.levels.specs.Rosters.{RosterView, is_same_party, is_partner}
use Rattle.frame.specs.Pieces.{pieces}
use Rattle.events.specs.declared.event.Event.{Event}
use Rattle.events.specs.Scripts.{is_known}
use Rattle.planned_files.specs.FilesView.{FilesView}
use Rattle.machine.specs.Setup.{Setup}
use Rattle.machine.specs.Low.{place_of}
use Rattle.machine.specs.Sends.{is_short}
use Rattle.machine.specs.Machine.{State, sent_by, state}
use Rattle.machine.specs.Wire.{frames_of, frames_from}
use Rattle.machine.specs.FalseBytes.{OpensFalse}
use Rattle.desk.specs.Views.{DeskView}
use Rattle.engine.specs.declared.halt.Halt.{Halt}
use Rattle.engine.specs.declared.halt.Halt.TheVariants.{Opened, OutOfMemory}
use Rattle.engine.specs.declared.merging.SentRow.{SentRow}
use Rattle.engine.specs.inside.Standing.{NetworkStands}

-- e makes nobody send
pub record SendsNothing (m : Setup) (x : State) (e : Event) : Type 0 where
  pub frames : frames_from m x e (place_of e) ≡ []
  pub none : (s r : Party) → sent_by m x e s r ≡ []

-- e makes a party send one message, which this row is of
pub record SendsRow (m : Setup) (x : State) (e : Event) (row : SentRow) : Type 0 where
  pub to : Party
  pub body : List ℕ
  pub row_is : row
      ≡ record { stream = record { from = place_of e; to = to }; pieces = pieces body }
  pub known : is_known m.roster (place_of e) ≡ true
  pub frames : frames_from m x e (place_of e)
      ≡ frames_of m (place_of e) to (length (x.sent (place_of e) to)) body
  pub one : (s r : Party) → sent_by m x e s r
      ≡ (if is_same_party (place_of e) s && is_same_party to r then body ∷ [] else [])

abbrev pub Sends : Setup → State → Event → Option SentRow → Type 0
Sends m x e None = SendsNothing m x e
Sends m x e (Some row) = SendsRow m x e row

-- the row of a message, if it is sent
abbrev pub row_said : RosterView → Party → Party → List ℕ → Option SentRow
row_said roster from to message = if is_partner roster from to && is_short message
    then Some (record { stream = record { from = from; to = to }; pieces = pieces message })
    else None

-- desks and files are where the machine is after e; no false bytes opened at e, and this is what
-- it made a party send
pub record Passed (m : Setup) (past : List Event) (e : Event) (desks : List (Option DeskView))
    (files : FilesView) (sent : Option SentRow) : Type 0 where
  pub stands : NetworkStands m (e ∷ past) desks files
  pub clean : ¬ OpensFalse m (state m past) e
  pub sends : Sends m (state m past) e sent

-- an event passes, or false bytes open at it
abbrev pub EndsEvent : Setup → List Event → Event → List (Option DeskView) → FilesView
    → Result (Option SentRow) Halt → Type 0
EndsEvent m past e desks files (Ok sent) = Passed m past e desks files sent
EndsEvent m past e desks files (Err Opened) = OpensFalse m (state m past) e
EndsEvent m past e desks files (Err OutOfMemory) = Unit {0}
