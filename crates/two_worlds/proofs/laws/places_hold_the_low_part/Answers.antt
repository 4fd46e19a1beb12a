use Rattle.two_worlds.proofs.LowPlaces.{places_hold}
use Rattle.two_worlds.proofs.laws.places_hold_the_low_part.Goals as goal

pub returns : goal.returns
returns c = places_hold
