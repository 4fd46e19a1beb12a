-- The lattice machine: what was sent, has arrived, was given and was told, by the events alone.
-- It knows sent lists and sets of arrivals; there is no unit, ring, slot or receive state in it.
-- Throughout, m is the setup, x the state before an event, and e the event.
use Rattle.std.specs.Prelude.{ℕ, ◌+◌, List, [], ◌∷◌, ◌++◌, length, map, filter, take, reverse, Bool, false, ◌==◌, ◌&&◌, Option, None, Some, slice_get, unwrap_or}
use Rattle.std.specs.List.{flat_map, range_with_len}
use Rattle.std.specs.Str.{bytes_eq}
use Rattle.levels.specs.declared.level.Partition.{Partition}
use Rattle.levels.specs.declared.level.Party.{Party}
use Rattle.levels.specs.declared.level.Party.TheVariants.{Host, Manager}
use Rattle.levels.specs.Rosters.{RosterView, partition_of, is_same_party, is_partner}
use Rattle.frame.specs.Pieces.{pieces, piece_of}
use Rattle.events.specs.declared.event.Stream.{Stream}
use Rattle.machine.specs.declared.line.OutLine.{OutLine}
use Rattle.machine.specs.declared.line.OutLine.TheVariants.{From}
use Rattle.file_calls.specs.Spelling.{reply_text}
use Rattle.events.specs.declared.event.Event.{Event}
use Rattle.events.specs.declared.event.Event.TheVariants.{Send, Ask, Arrive, Carry, Forge, Tamper}
use Rattle.events.specs.ScriptView.{ScriptView}
use Rattle.frame.specs.Frames.{frame_of}
use Rattle.machine.specs.Setup.{Setup, setup_of}
use Rattle.machine.specs.Low.{place_of}
use Rattle.machine.specs.Sends.{sending_of, sent_on, answers}
use Rattle.machine.specs.Given.{is_given}
use Rattle.machine.specs.Files.{CallRow}
use Rattle.machine.specs.Plan.{reply}

pub record State : Type 0 where
  -- the messages from one party to another, numbered from 0
  pub sent : Party → Party → List (List ℕ)
  -- the pieces from one party that have arrived at another: a set of pairs of the numbers of a
  -- message and of a piece, kept as a list
  pub arrived : Party → Party → List (ℕ × ℕ)
  -- the numbers of the messages from one party that were given to another, in order
  pub given : Party → Party → List ℕ
  -- the messages that were given to manager units, the newest first
  pub calls : List CallRow
  -- what each party was told, in order
  pub told : Party → List OutLine

-- the parties of a roster: its hosts, and the manager unit of each of its levels
abbrev pub parties : RosterView → List Party
parties roster =
    map (λ row. Host row.address) roster.hosts
    ++ map (λ p. Manager (record { 0 = p })) (range_with_len 0 (length roster.levels))

-- a manager unit has address 0 in its partition
abbrev pub address_of : Party → ℕ
address_of (Host address) = address
address_of (Manager partition) = 0

-- the number of a partition; a party that the roster doesn't have counts as of partition 0
abbrev pub number_of : Option Partition → ℕ
number_of None = 0
number_of (Some partition) = partition.0

-- the frame of piece i of message j from s to u, which is this body: under the keys of s
abbrev pub piece_frame : Setup → Party → Party → ℕ → List ℕ → ℕ → List ℕ
piece_frame m s u j body i =
    (let p = number_of (partition_of m.roster s) in
    frame_of m.sealed (m.keys p) (piece_of (address_of s) (address_of u) p j body i))

-- whether a stream is that from s to u, and something of it is handed to u
abbrev pub is_between : Stream → Party → Party → Party → Bool
is_between stream at s u =
    is_same_party stream.from s && is_same_party stream.to u && is_same_party at u

-- whether e hands piece i of message j from s, which is this body, over to u: an Arrive names the
-- piece, a Carry names the message, and the bytes of a Forge are its frame
abbrev pub hands : Setup → Event → Party → Party → ℕ → List ℕ → ℕ → Bool
hands m (Arrive stream message piece at) s u j body i =
    is_between stream at s u && message == j && piece == i
hands m (Carry stream message at) s u j body i = is_between stream at s u && message == j
hands m (Forge at bytes) s u j body i =
    is_same_party at u && bytes_eq bytes (piece_frame m s u j body i)
hands m (Send from to message) s u j body i = false
hands m (Ask from call) s u j body i = false
hands m (Tamper stream message piece at edits) s u j body i = false

-- the pieces that e hands over of these messages from s to u, which are numbered from j
abbrev pub handed_of : Setup → Event → Party → Party → ℕ → List (List ℕ) → List (ℕ × ℕ)
handed_of m e s u j [] = []
handed_of m e s u j (body ∷ messages) =
    map (λ i. (j, i)) (filter (hands m e s u j body) (range_with_len 0 (pieces body)))
    ++ handed_of m e s u (j + 1) messages

-- the pieces that e hands over to u of the messages that s has sent to u
abbrev pub handed : Setup → State → Event → Party → Party → List (ℕ × ℕ)
handed m x e s u = handed_of m e s u 0 (x.sent s u)

-- whether e gives message j of s to u
unfoldable pub gives : Setup → State → Event → Party → Party → ℕ → Bool
gives m x e s u j =
    (let before = x.arrived s u in
    is_given m.ahead (slice_get (x.sent s u) j) before (handed m x e s u ++ before) (x.given s u) j)

-- the numbers of the messages of s that e gives to u: one or none
abbrev pub numbers_given : Setup → State → Event → Party → Party → List ℕ
numbers_given m x e s u = filter (gives m x e s u) (range_with_len 0 (length (x.sent s u)))

-- a message with its sender
pub record Message : Type 0 where
  pub from : Party
  pub body : List ℕ

abbrev pub message_of : Party → List (List ℕ) → ℕ → Message
message_of s messages j = record { from = s; body = unwrap_or (slice_get messages j) [] }

-- the messages that e gives to u: those of s, and those of all parties
abbrev pub given_from : Setup → State → Event → Party → Party → List Message
given_from m x e u s = map (message_of s (x.sent s u)) (numbers_given m x e s u)

abbrev pub given_to : Setup → State → Event → Party → List Message
given_to m x e u = flat_map (given_from m x e u) (parties m.roster)

-- a message that is given to the manager unit of a level, as a call
abbrev pub call_row : ℕ → Message → CallRow
call_row level l = record { caller = l.from; level = level; message = l.body }

-- the calls among messages that are given to a party
abbrev pub calls_to : Party → List Message → List CallRow
calls_to (Host address) messages = []
calls_to (Manager p) messages = map (call_row p.0) messages

-- the calls that e gives, at the unit where it happens
abbrev pub calls_by : Setup → State → Event → List CallRow
calls_by m x e = calls_to (place_of e) (given_to m x e (place_of e))

-- whether the manager unit s answers this call to r
abbrev pub is_answered_on : RosterView → Party → Party → CallRow → Bool
is_answered_on roster s r c =
    is_same_party (Manager (record { 0 = c.level })) s && is_same_party c.caller r
    && is_partner roster s r

-- the replies that e makes s send to r
abbrev pub replies : Setup → State → Event → Party → Party → List (List ℕ)
replies m x e s r = map (λ c. reply_text (reply m x.calls c))
    (filter (is_answered_on m.roster s r) (calls_by m x e))

-- the messages that e makes s send to r, a host's own or a manager unit's reply: one or none
abbrev pub sent_by : Setup → State → Event → Party → Party → List (List ℕ)
sent_by m x e s r = sent_on m.roster (sending_of m.roster e) s r ++ replies m x e s r

-- what e tells r: the answer to its send, and the messages that it is given
abbrev pub lines_by : Setup → State → Event → Party → List OutLine
lines_by m x e r =
    answers m.roster x.sent (sending_of m.roster e) r
    ++ map (λ l. From l.from l.body) (given_to m x e r)

-- the state after e
abbrev pub after : Setup → Event → State → State
after m e x = record {
  sent = λ s r. x.sent s r ++ sent_by m x e s r;
  arrived = λ s u. handed m x e s u ++ x.arrived s u;
  given = λ s u. x.given s u ++ numbers_given m x e s u;
  calls = calls_by m x e ++ x.calls;
  told = λ r. x.told r ++ lines_by m x e r;
}

-- the state after the events of a past, which stand newest first
abbrev pub state : Setup → List Event → State
state m [] = record {
  sent = λ s r. [];
  arrived = λ s u. [];
  given = λ s u. [];
  calls = [];
  told = λ r. [];
}
state m (e ∷ past) = after m e (state m past)

-- all pieces that have arrived at u, each as often as it did
abbrev pub arrivals_at : RosterView → State → Party → List (ℕ × ℕ)
arrivals_at roster x u = flat_map (λ s. x.arrived s u) (parties roster)

-- the numbers of all messages that were given to u
abbrev pub given_at : RosterView → State → Party → List ℕ
given_at roster x u = flat_map (λ s. x.given s u) (parties roster)

-- the state after the first n events of a script
abbrev pub state_at : ScriptView → ℕ → State
state_at script n = state (setup_of script) (reverse (take n script.events))

-- the state after all events of a script
abbrev pub end_of : ScriptView → State
end_of script = state (setup_of script) (reverse script.events)

-- what a script tells a party
abbrev pub told : ScriptView → Party → List OutLine
told script r = (end_of script).told r
