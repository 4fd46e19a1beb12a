-- What the words of lines stand for, by the names of a roster's levels.
use Rattle.std.specs.Prelude.{ℕ, List, Option, Some, None}
use Rattle.levels.specs.declared.level.Party.{Party}
use Rattle.levels.specs.declared.level.Party.TheVariants.{Host, Manager}
use Rattle.levels.specs.Rosters.{RosterView, level_named}
use Rattle.file_calls.specs.declared.call.Call.{Call}
use Rattle.file_calls.specs.declared.call.Call.TheVariants as call
use Rattle.untrusted_store.specs.declared.plan.PlanRow.{PlanRow}
use Rattle.untrusted_store.specs.declared.plan.StoreAction.{StoreAction}
use Rattle.untrusted_store.specs.declared.plan.StoreAction.TheVariants.{Honest, Of, Flip, Gone}
use Rattle.events.specs.declared.event.Event.{Event}
use Rattle.events.specs.declared.event.Event.TheVariants.{Send, Ask, Arrive, Carry, Forge, Tamper}
use Rattle.events.specs.declared.event.Stream.{Stream}
use Rattle.script.specs.declared.line.PartyWord.{PartyWord}
use Rattle.script.specs.declared.line.PartyWord.TheVariants.{Address, Name}
use Rattle.script.specs.declared.line.StreamWord.{StreamWord}
use Rattle.script.specs.Lines.{CallWords, EventWords, StoreWords}
use Rattle.script.specs.Lines as line

infixl 10 ◌>>=◌
abbrev pub ◌>>=◌ : {A B : Type 0} → Option A → (A → Option B) → Option B
Some x >>= f = f x
None >>= f = None

-- the first, where there is one, else the second
abbrev pub either : {A : Type 0} → Option A → Option A → Option A
either (Some x) other = Some x
either None other = other

-- a party by its word
abbrev pub party_named : RosterView → PartyWord → Option Party
party_named roster (Address address) = Some (Host address)
party_named roster (Name level) = do
  partition ← level_named roster level
  Some (Manager partition)

abbrev pub stream_named : RosterView → StreamWord → Option Stream
stream_named roster words = do
  from ← party_named roster words.from
  to ← party_named roster words.to
  Some (record { from = from; to = to })

-- a call by its words, where the roster has the level that they name
abbrev pub call_named : RosterView → CallWords → Option Call
call_named roster (line.Put name content) = Some (call.Put name content)
call_named roster (line.Get level name) = do
  partition ← level_named roster level
  Some (call.Get partition.0 name)
call_named roster (line.ListNames level) = do
  partition ← level_named roster level
  Some (call.List partition.0)
call_named roster (line.Remove name) = Some (call.Remove name)
call_named roster (line.Append name content) = Some (call.Append name content)
call_named roster (line.Block level name block) = do
  partition ← level_named roster level
  Some (call.GetBlock partition.0 name block)

-- an event by the words of its line, where the roster has the levels that they name
abbrev pub event_named : RosterView → EventWords → Option Event
event_named roster (line.Send from to message) = do
  party ← party_named roster to
  Some (Send from party message)
event_named roster (line.Ask from words) = do
  asked ← call_named roster words
  Some (Ask from asked)
event_named roster (line.Deliver stream message piece at) = do
  parties ← stream_named roster stream
  party ← party_named roster at
  Some (Arrive parties message piece party)
event_named roster (line.Carry stream message at) = do
  parties ← stream_named roster stream
  party ← party_named roster at
  Some (Carry parties message party)
event_named roster (line.Forge at bytes) = do
  party ← party_named roster at
  Some (Forge party bytes)
event_named roster (line.Tamper stream message piece at edits) = do
  parties ← stream_named roster stream
  party ← party_named roster at
  Some (Tamper parties message piece party edits)

-- what the store does, by its words
abbrev pub action_named : RosterView → StoreWords → Option StoreAction
action_named roster line.Honest = Some Honest
action_named roster (line.Of level version) = do
  partition ← level_named roster level
  Some (Of partition.0 version)
action_named roster (line.Flip offset xor) = Some (Flip offset xor)
action_named roster line.Gone = Some Gone

-- a row of the plan by its reader's name and its words
abbrev pub row_named : RosterView → List ℕ → StoreWords → Option PlanRow
row_named roster reader words = do
  partition ← level_named roster reader
  action ← action_named roster words
  Some (record { reader = partition; action = action })
