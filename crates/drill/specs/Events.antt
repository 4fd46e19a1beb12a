-- The events of each step of a drill.
use Rattle.std.specs.Prelude.{ℕ, ◌+◌, ◌%◌, List, [], ◌∷◌, replicate, Bool, ◌==◌, ◌&&◌, not, nat_lt, if◌then◌else◌}
use Rattle.std.specs.List.{count_by}
use Rattle.levels.specs.declared.level.Party.{Party}
use Rattle.levels.specs.declared.level.Party.TheVariants.{Host, Manager}
use Rattle.file_calls.specs.declared.call.Call.{Call}
use Rattle.file_calls.specs.declared.call.Call.TheVariants.{Put, Get, List as ListNames}
use Rattle.events.specs.declared.event.Event.{Event}
use Rattle.events.specs.declared.event.Event.TheVariants.{Send, Ask, Carry}
use Rattle.drill.specs.declared.draws.Step.{Step}
use Rattle.drill.specs.Places.{home_of, neighbour_of}

-- as many bytes as a value says, each of them the value
abbrev pub bytes_of : ℕ → List ℕ
bytes_of value = replicate value value

-- `f` and the last digit of a value
abbrev pub file_name : ℕ → List ℕ
file_name value = 102 ∷ (48 + value % 10) ∷ []

-- ---- which kind of step does what

-- a step of kinds 0 to 3 sends a message, and a step of the others asks a call
abbrev pub is_send : Step → Bool
is_send step = nat_lt step.kind 4

-- how often the message of a step is carried: twice in kind 2, not at all in kind 3
abbrev pub carries_of : ℕ → ℕ
carries_of kind = if kind == 3 then 0 else (if kind == 2 then 2 else 1)

-- the call of a step: kind 4 writes, kind 5 reads at the host's own level, kind 6 reads at the
-- lowest level, and kind 7 lists the host's own level
abbrev pub call_of : Step → Call
call_of step =
    if step.kind == 4 then Put (file_name step.value) (bytes_of step.value)
    else (if step.kind == 5 then Get (home_of step.host).0 (file_name step.value)
    else (if step.kind == 6 then Get 0 (file_name step.value)
    else ListNames (home_of step.host).0))

-- ---- events

-- a message is carried to its receiver
abbrev pub carry : Party → Party → ℕ → Event
carry from to message = Carry (record { from = from; to = to }) message to

-- the message goes to the other host of the level, as the message of this number
abbrev pub send_events : ℕ → Step → List Event
send_events message step =
    let to = Host (neighbour_of step.host) in
    Send step.host to (bytes_of step.value)
    ∷ replicate (carries_of step.kind) (carry (Host step.host) to message)

-- the call goes to the manager unit of the level, as the message of this number, and the reply
-- comes back
abbrev pub call_events : ℕ → Step → List Event
call_events message step =
    let manager = Manager (home_of step.host) in
    Ask step.host (call_of step)
    ∷ carry (Host step.host) manager message
    ∷ carry manager (Host step.host) message
    ∷ []

-- how often a host has sent, and how often it has called
abbrev pub sends_before : List Step → ℕ → ℕ
sends_before earlier host = count_by (λ step. step.host == host && is_send step) earlier

abbrev pub calls_before : List Step → ℕ → ℕ
calls_before earlier host = count_by (λ step. step.host == host && not (is_send step)) earlier

-- the events of a step where its host has sent and called so often before
abbrev pub events_after : ℕ → ℕ → Step → List Event
events_after sends calls step =
    if is_send step then send_events sends step else call_events calls step

-- the events of a step behind earlier ones
abbrev pub step_events : List Step → Step → List Event
step_events earlier step =
    events_after (sends_before earlier step.host) (calls_before earlier step.host) step
