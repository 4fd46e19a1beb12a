use Rattle.std.proofs.Common.{◌≡◌, length, Some, true, false, arith}
use Rattle.std.specs.Prelude.{slice_get}
use Rattle.std.proofs.lemmas.Grind.{common_steps}
use Rattle.std.proofs.lemmas.Option.{slice_get_read}
use Rattle.two_worlds.specs.declared.places.LowItem.TheVariants as at
use Rattle.two_worlds.specs.LowParts.{is_low_event}
use Rattle.two_worlds.proofs.LowPlaces.{place_kept, place_left_out}
use Rattle.two_worlds.proofs.places.push_events.Goals as goal
use Rattle.two_worlds.proofs.places.push_events.Goals.{then-is_low+in_ok-push, else-is_low}

pub loop-place-preserved : goal.loop-place-preserved
loop-place-preserved c =
    let roster = c.args.script.now.roster in
    let xs = c.args.script.now.events in
    let n = c.loop-place.place in
    let e = c.event-item.result in
    let test = is_low_event roster c.args.level in
    let old = c.args.items.now.items in
    let there : slice_get xs n ≡ Some e = grind (arith, common_steps, slice_get_read xs (length xs) n e) in
    let tested : c.is_low.result ≡ test e = cc in
    elim c.if-is_low.branch [
      | then-is_low+in_ok-push w ↦
          (let passes : test e ≡ true = cc in
          let more = place_kept at.Event test xs n e old there passes in
          first_of (cc, grind (arith, common_steps)))
      | else-is_low w ↦
          (let fails : test e ≡ false = cc in
          let more = place_left_out at.Event test xs n e old there fails in
          first_of (cc, grind (arith, common_steps)))
    ]
