use Rattle.std.proofs.Common.{◌≡◌, ◌<◌, length, Some, true, false, arith, slice_index_or}
use Rattle.std.specs.Prelude.{slice_get}
use Rattle.std.proofs.lemmas.Grind.{common_steps}
use Rattle.std.proofs.lemmas.Option.{slice_get-get_or}
use Rattle.untrusted_store.specs.declared.plan.PlanRow.{PlanRow}
use Rattle.untrusted_store.specs.declared.plan.StoreAction.TheVariants.{Honest}
use Rattle.two_worlds.specs.declared.places.LowItem.TheVariants as at
use Rattle.two_worlds.specs.LowParts.{is_low_row}
use Rattle.two_worlds.proofs.LowPlaces.{place_kept, place_left_out}
use Rattle.two_worlds.proofs.places.push_rows.Goals as goal
use Rattle.two_worlds.proofs.places.push_rows.Goals.{then-is_low+in_ok-push, else-is_low}

pub loop-place-preserved : goal.loop-place-preserved
loop-place-preserved c =
    let xs = c.args.script.now.rows in
    let n = c.loop-place.place in
    let row : PlanRow = slice_index_or xs n (record { reader = record { 0 = 0 }; action = Honest }) in
    let test = is_low_row c.args.script.now.roster c.args.level in
    let old = c.args.items.now.items in
    let lt : n < length xs = grind (arith, common_steps) in
    let there : slice_get xs n ≡ Some row = slice_get-get_or xs n _ lt in
    let tested : c.is_low.result ≡ test row = cc in
    elim c.if-is_low.branch [
      | then-is_low+in_ok-push w ↦
          (let passes : test row ≡ true = cc in
          let more = place_kept at.Row test xs n row old there passes in
          first_of (cc, grind (arith, common_steps)))
      | else-is_low w ↦
          (let fails : test row ≡ false = cc in
          let more = place_left_out at.Row test xs n row old there fails in
          first_of (cc, grind (arith, common_steps)))
    ]
