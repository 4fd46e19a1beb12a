-- Scripts in which the network and the store make up nothing.
use Rattle.std.specs.Prelude.{◌≡◌, [], All}
use Rattle.events.specs.declared.event.Event.{Event}
use Rattle.events.specs.declared.event.Event.TheVariants.{Send, Ask, Arrive, Carry, Forge, Tamper}
use Rattle.events.specs.ScriptView.{ScriptView}

-- the network forges no frame and changes none
abbrev pub IsGenuine : Event → Type 0
IsGenuine (Send from to message) = Unit {0}
IsGenuine (Ask from call) = Unit {0}
IsGenuine (Arrive stream message piece at) = Unit {0}
IsGenuine (Carry stream message at) = Unit {0}
IsGenuine (Forge at bytes) = ⊥
IsGenuine (Tamper stream message piece at edits) = ⊥

-- the network is genuine, and the store has no plan
pub record IsHonest (script : ScriptView) : Type 0 where
  pub rows : script.rows ≡ []
  pub events : All IsGenuine script.events
