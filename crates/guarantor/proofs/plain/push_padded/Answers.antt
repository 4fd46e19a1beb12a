use Rattle.std.proofs.Common.{◌≡◌, ℕ, List, ◌++◌, take, replicate, ap, ◌∙◌, append_assoc}
use Rattle.std.proofs.lemmas.List.{take-replicate}
use Rattle.guarantor.proofs.plain.push_padded.Goals as goal

pub returns : goal.returns
returns c =
    let zeros : take c.args.zeros (replicate 32 0) ≡ replicate c.args.zeros 0 =
    take-replicate c.args.zeros 32 0 c.requires in
    c.in_ok-extend_from_slice-2.ensures.items
    ∙ ap (λ (t : List ℕ). t ++ take c.args.zeros (replicate 32 0)) c.in_ok-extend_from_slice.ensures.items
    ∙ append_assoc c.args.text.now.items c.args.bytes.now (take c.args.zeros (replicate 32 0))
    ∙ ap (λ (t : List ℕ). c.args.text.now.items ++ (c.args.bytes.now ++ t)) zeros
