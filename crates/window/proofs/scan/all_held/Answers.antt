use Rattle.std.proofs.Common.{◌≡◌, ◌+◌, true, false, refl, sym, ◌∙◌, arith}
use Rattle.std.proofs.lemmas.Bool.Decides.{nat_tests}
use Rattle.window.specs.ListRule.{is_held}
use Rattle.window.proofs.Filling.{all_range_more, all_fails}
use Rattle.window.proofs.scan.all_held.Goals as goal

pub returns-then-not-is_held : goal.returns-then-not-is_held
returns-then-not-is_held c =
    let fails : is_held c.args.heard.now c.args.message c.args.last c.loop-place.place ≡ false =
    sym c.is_held.ensures ∙ grind (arith, nat_tests) in
    sym (all_fails (is_held c.args.heard.now c.args.message c.args.last) 0 (c.args.last + 1) c.loop-place.place
    (omega arith) (omega arith) fails)

pub loop-place-preserved : goal.loop-place-preserved
loop-place-preserved c =
    let held : is_held c.args.heard.now c.args.message c.args.last c.loop-place.place ≡ true =
    sym c.is_held.ensures ∙ grind (arith, nat_tests) in
    let before = c.loop-place.invariant in
    all_range_more (is_held c.args.heard.now c.args.message c.args.last) 0 c.loop-place.place c.loop-place.place
    (omega arith) ∙ rw (before, held) refl
