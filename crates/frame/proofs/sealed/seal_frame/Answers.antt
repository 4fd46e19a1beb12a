use Rattle.std.proofs.Common.{◌++◌, List, ℕ, length, ap, ap₂, ◌∙◌, rules}
use Rattle.frame.specs.Frames.{header, nonce_of, frame_of}
use Rattle.frame.proofs.Spelling.{last_part}
use Rattle.frame.proofs.sealed.seal_frame.Goals as goal

pub returns : goal.returns
unfolding frame_of header
returns g c =
    let own = c.copy_from_slice.ensures.after ∙ c.header.ensures ∙ ap header c.partition.ensures.partition in
    let text = c.seal.ensures
    ∙ ap₂ (λ (a b : List ℕ). g.S.Seal.sealed_text c.args.keys.now a b)
    (c.nonce_of.ensures ∙ ap nonce_of c.write_plain.ensures) c.write_plain.ensures in
    last_part 8 120 c.copy_from_slice.new.self _ _ (ap length (c.copy_from_slice.ensures.after ∙ c.header.ensures))
    (search rules)
    ∙ ap₂ (λ (s t : List ℕ). s ++ t) own text
