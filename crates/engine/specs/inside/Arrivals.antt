-- What an event brings.
use Rattle.std.specs.Prelude.{List, map}
use Rattle.events.specs.declared.event.Event.{Event}
use Rattle.machine.specs.declared.line.OutLine.{OutLine}
use Rattle.machine.specs.declared.line.OutLine.TheVariants.{From}
use Rattle.machine.specs.Setup.{Setup}
use Rattle.machine.specs.Machine.{State, Message, after}

-- the state with what e has brought and nothing that it makes anybody send
abbrev pub came : Setup → Event → State → State
came m e x = record (after m e x) { sent = x.sent }

-- the lines of messages
abbrev pub lines_given : List Message → List OutLine
lines_given messages = map (λ l. From l.from l.body) messages
