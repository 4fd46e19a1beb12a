use Rattle.std.proofs.Common.{rules, ◌++◌, List, ℕ, length, refl, ap, ap₂, ◌∙◌}
use Rattle.frame.specs.Frames.{plain_of}
use Rattle.frame.proofs.Spelling.{last_part}
use Rattle.frame.proofs.piece.write_plain.Goals as goal

pub returns : goal.returns
unfolding plain_of
returns c =
    let bytes = c.to_be_bytes.ensures in
    last_part 16 88 c.copy_from_slice.new.self _ _ (ap length c.copy_from_slice.ensures.after) (search rules)
    ∙ ap₂ (λ (s t : List ℕ). s ++ t) c.copy_from_slice.ensures.after c.copy_from_slice-2.ensures.after
    ∙ rw bytes refl
    ∙ ap plain_of c.piece.view_is
