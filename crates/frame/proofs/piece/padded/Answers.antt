use Rattle.std.proofs.Common.{List, ℕ, ◌-◌, ◌++◌, length, ap, ◌∙◌}
use Rattle.std.specs.Prelude.{replicate}
use Rattle.std.proofs.lemmas.List.{drop-replicate}
use Rattle.frame.specs.Pieces.{padded}
use Rattle.frame.proofs.piece.padded.Goals as goal

pub returns : goal.returns
unfolding padded
returns c =
    let bytes = c.args.bytes.now in
    ap (λ (z : List ℕ). c.copy_from_slice.new.self ++ z) (drop-replicate (length bytes) 88 0)
    ∙ ap (λ (t : List ℕ). t ++ replicate (88 - length bytes) 0) c.copy_from_slice.ensures.after
