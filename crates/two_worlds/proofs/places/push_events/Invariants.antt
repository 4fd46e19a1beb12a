use Rattle.std.proofs.Common.{◌≡◌, ◌++◌, map}
use Rattle.two_worlds.specs.declared.places.LowItem.TheVariants as at
use Rattle.two_worlds.specs.LowParts.{is_low_event}
use Rattle.two_worlds.proofs.LowPlaces.{places_below}
use Rattle.two_worlds.proofs.places.push_events.Given as goal

abbrev pub invariant-loop-place : goal.invariant-loop-place
invariant-loop-place l =
    l.items.items
    ≡ l.fn.items.items ++ map at.Event (places_below (is_low_event l.script.roster l.level) l.script.events l.place)
