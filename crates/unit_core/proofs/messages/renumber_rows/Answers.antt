use Rattle.std.proofs.Common.{◌≡◌, ◌<◌, ◌∷◌, ◌++◌, List, [], ℕ, zero, suc, length, map, take, drop, refl, ap, ◌∙◌, arith, add-one}
use Rattle.std.proofs.Math.ListN.{get_or, set}
use Rattle.unit_core.specs.declared.rows.GivenRow.{GivenRow}
use Rattle.unit_core.specs.inside.Messages.{row_renumbered}
use Rattle.unit_core.proofs.messages.renumber_rows.Goals as goal

still_there : (f : GivenRow → GivenRow) (xs : List GivenRow) (i : ℕ) (d : GivenRow) → i < length xs
    → get_or (map f (take i xs) ++ drop i xs) i d ≡ get_or xs i d
still_there f [] i d h = absurd (omega (arith, h))
still_there f (x ∷ xs) zero d h = refl
still_there f (x ∷ xs) (suc i) d h = still_there f xs i d (omega (arith, h))

one_more : (f : GivenRow → GivenRow) (xs : List GivenRow) (i : ℕ) (d : GivenRow) → i < length xs
    → set (map f (take i xs) ++ drop i xs) i (f (get_or xs i d)) ≡ map f (take (suc i) xs) ++ drop (suc i) xs
one_more f [] i d h = absurd (omega (arith, h))
one_more f (x ∷ xs) zero d h = refl
one_more f (x ∷ xs) (suc i) d h = ap (λ ys. f x ∷ ys) (one_more f xs i d (omega (arith, h)))

pub loop-i-preserved : goal.loop-i-preserved
loop-i-preserved c =
    let f = row_renumbered c.args.places.now in
    let xs = c.args.rows.now.items in
    let i = c.loop-i.i in
    let d = c.index.result.now in
    let lt : i < length xs = omega (arith, c.args.rows.now.ok.0, c.loop-i-test.true, c.len-i-end.ensures) in
    let row : d ≡ get_or xs i d =
    c.index.ensures ∙ (ap (λ ys. get_or ys i d) c.loop-i.invariant.rows ∙ still_there f xs i d lt) in
    let new : c.with_frame.result ≡ f (get_or xs i d) = c.with_frame.ensures ∙ ap f row in
    record {
      rows = rw add-one (ap (λ ys. set ys i c.with_frame.result) c.loop-i.invariant.rows
          ∙ (ap (λ y. set (map f (take i xs) ++ drop i xs) i y) new ∙ one_more f xs i d lt));
      memory = c.loop-i.invariant.memory;
    }
