use Rattle.std.proofs.Common.{◌≡◌, ◌*◌, ◌-◌, ◌≤◌, List, ℕ, take, drop, length, length-drop, ap, ◌∙◌, arith}
use Rattle.std.specs.Prelude.{min}
use Rattle.std.proofs.lemmas.List.{take_all, take_min}
use Rattle.frame.specs.Pieces.{piece_bytes}
use Rattle.frame.proofs.Cutting.{starts_within}
use Rattle.frame.proofs.piece.piece_bytes.Goals as goal

pub slice_bounds-rest-count : goal.slice_bounds-rest-count
slice_bounds-rest-count c = starts_within _ _ c.requires

pub slice_bounds-rest-start : goal.slice_bounds-rest-start
slice_bounds-rest-start c = starts_within _ _ c.requires

pub returns-clause-bytes : goal.returns-clause-bytes
unfolding piece_bytes
returns-clause-bytes c =
    let n = length c.args.body.now - 88 * c.args.i in
    let rest = drop (88 * c.args.i) c.args.body.now in
    let long : length rest ≤ n = omega (arith, length-drop (88 * c.args.i) c.args.body.now) in
    let whole : take n rest ≡ rest = take_all n rest long in
    let end : c.min.result ≡ min 88 (length rest) =
    c.min.ensures ∙ ap (λ (xs : List ℕ). min (length xs) 88) whole ∙ omega arith in
    ap (λ (xs : List ℕ). take c.min.result xs) whole ∙ ap (λ k. take k rest) end ∙ take_min 88 rest
