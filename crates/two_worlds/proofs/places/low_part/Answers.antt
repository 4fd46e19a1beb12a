use Rattle.std.proofs.Common.{◌≡◌, length, ap, arith}
use Rattle.std.proofs.lemmas.Grind.{common_steps}
use Rattle.two_worlds.specs.LowParts.{low_items}
use Rattle.two_worlds.proofs.LowPlaces.{few_items}
use Rattle.two_worlds.proofs.places.low_part.Goals as goal

pub returns-clause-few : goal.returns-clause-few
returns-clause-few c =
    let own = c.level_at-own.result in
    let script = c.args.script.now in
    let is : c.push_events.new.items.items ≡ low_items own script = grind (arith, common_steps) in
    let long = ap length is in
    let few = few_items own script in
    let kept = c.roster.ensures.kept in
    omega (arith, long, few, kept.row_room, kept.room)
