-- What an event sends, and the answer to it.
use Rattle.std.specs.Prelude.{ℕ, List, [], ◌∷◌, length, Bool, nat_le, ◌&&◌, if◌then◌else◌, Option, Some, None}
use Rattle.std.specs.Option.{option_map}
use Rattle.levels.specs.declared.level.Party.{Party}
use Rattle.levels.specs.declared.level.Party.TheVariants.{Host, Manager}
use Rattle.levels.specs.Rosters.{RosterView, partition_of, is_same_party, is_partner}
use Rattle.frame.specs.declared.refused.SendRefused.TheVariants.{NoPartner, TooLong}
use Rattle.machine.specs.declared.line.OutLine.{OutLine}
use Rattle.machine.specs.declared.line.OutLine.TheVariants.{Sent, Refused}
use Rattle.file_calls.specs.Spelling.{call_text}
use Rattle.events.specs.declared.event.Event.{Event}
use Rattle.events.specs.declared.event.Event.TheVariants.{Send, Ask, Arrive, Carry, Forge, Tamper}

pub record Sending : Type 0 where
  pub from : Party
  pub to : Party
  pub message : List ℕ

-- what an event sends: an Ask is the Send of its call's spelling to the manager unit of its level
abbrev pub sending_of : RosterView → Event → Option Sending
sending_of roster (Send from to message) =
    Some (record { from = Host from; to = to; message = message })
sending_of roster (Ask from call) =
    option_map (λ p. record { from = Host from; to = Manager p; message = call_text call })
    (partition_of roster (Host from))
sending_of roster (Arrive stream message piece at) = None
sending_of roster (Carry stream message at) = None
sending_of roster (Forge at bytes) = None
sending_of roster (Tamper stream message piece at edits) = None

-- a message has at most 64 pieces of 88 bytes
abbrev pub is_short : List ℕ → Bool
is_short message = nat_le (length message) 5632

-- a send is accepted where the receiver is a partner and the message isn't too long
abbrev pub is_accepted : RosterView → Sending → Bool
is_accepted roster x = is_partner roster x.from x.to && is_short x.message

-- the message that is sent from s to r, if this is an accepted send of s to r
abbrev pub sent_on : RosterView → Option Sending → Party → Party → List (List ℕ)
sent_on roster None s r = []
sent_on roster (Some x) s r =
    if is_same_party x.from s && is_same_party x.to r && is_accepted roster x
    then x.message ∷ [] else []

-- the answer to a send after these messages of its stream: its number, or why it isn't accepted
abbrev pub answer_to : RosterView → Sending → List (List ℕ) → OutLine
answer_to roster x messages =
    if is_partner roster x.from x.to
    then (if is_short x.message then Sent x.to (length messages) else Refused x.to TooLong)
    else Refused x.to NoPartner

-- the answer that r gets, if this is a send of r; sent gives the messages of each stream
abbrev pub answers :
    RosterView → (Party → Party → List (List ℕ)) → Option Sending → Party → List OutLine
answers roster sent None r = []
answers roster sent (Some x) r =
    if is_same_party x.from r then answer_to roster x (sent x.from x.to) ∷ [] else []
