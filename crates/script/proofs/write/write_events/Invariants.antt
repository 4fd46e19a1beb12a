use Rattle.std.proofs.Common.{◌≡◌, ◌++◌, take, map}
use Rattle.std.specs.List.{flat_map}
use Rattle.script.specs.Spelling.{ended_text}
use Rattle.script.specs.Text.{line_of_event}
use Rattle.script.proofs.write.write_events.Given as goal

abbrev pub invariant-loop-event : goal.invariant-loop-event
invariant-loop-event l = l.text.items ≡ l.initial.text.items
    ++ flat_map ended_text (map (line_of_event l.roster) (take l.event-index l.events))
