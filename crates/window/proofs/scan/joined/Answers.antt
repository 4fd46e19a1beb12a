use Rattle.std.proofs.Common.{◌++◌, [], List, ℕ, Option, sym, ◌∙◌, ap, arith}
use Rattle.std.specs.Prelude.{unwrap_or}
use Rattle.std.specs.List.{flat_map, range_with_len}
use Rattle.window.specs.ListRule.{bytes_at}
use Rattle.window.specs.Scanning.{bytes_in}
use Rattle.window.proofs.Filling.{flat_more}
use Rattle.window.proofs.scan.joined.Goals as goal

pub loop-place-preserved : goal.loop-place-preserved
loop-place-preserved c =
    let f = λ (i : ℕ). unwrap_or (bytes_at c.args.heard.now c.args.message c.args.last i) [] in
    c.in_ok-append.ensures
    ∙ ap (λ xs. xs ++ unwrap_or (bytes_in c.first_at.result) []) c.loop-place.invariant
    ∙ ap (λ (o : Option (List ℕ)). flat_map f
    (range_with_len 0 c.loop-place.place) ++ unwrap_or o []) c.first_at.ensures
    ∙ sym (flat_more f 0 c.loop-place.place c.loop-place.place (omega arith))
