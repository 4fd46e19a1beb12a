-- A drill that is being made: its counts by host, and the events that a step adds.
use Rattle.std.specs.Prelude.{◌≡◌, ℕ, ◌+◌, List, ◌++◌, length, slice_index, slice_set, Bool, if◌then◌else◌}
use Rattle.events.specs.declared.event.Event.{Event}
use Rattle.events.specs.ScriptView.{ScriptView}
use Rattle.drill.specs.declared.draws.Step.{Step}
use Rattle.drill.specs.Places.{IsHost}
use Rattle.drill.specs.Events.{sends_before, calls_before}

-- one more of a host
abbrev pub counted : List ℕ → ℕ → List ℕ
counted counts host = slice_set counts host (slice_index counts host + 1)

-- one more of a host where the test holds
abbrev pub counted_if : Bool → List ℕ → ℕ → List ℕ
counted_if holds counts host = if holds then counted counts host else counts

-- a script with more events behind its own
abbrev pub with_events : ScriptView → List Event → ScriptView
with_events script events = record script { events = script.events ++ events }

-- the counts say how often each host has sent in some steps
pub record AreSends (earlier : List Step) (counts : List ℕ) : Type 0 where
  pub long : length counts ≡ 7
  pub each : (host : ℕ) → IsHost host → slice_index counts host ≡ sends_before earlier host

-- the counts say how often each host has called in some steps
pub record AreCalls (earlier : List Step) (counts : List ℕ) : Type 0 where
  pub long : length counts ≡ 7
  pub each : (host : ℕ) → IsHost host → slice_index counts host ≡ calls_before earlier host
