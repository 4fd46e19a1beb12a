use Rattle.std.proofs.Common.{◌≡◌, ◌++◌, length, ℕ, List, refl, ap, ap₂, ◌∙◌, arith, rules}
use Rattle.seal_core.specs.Clear.{clear_text}
use Rattle.seal_core.proofs.Joined.{joined}
use Rattle.seal_core.specs.ClearLaws.{length-clear_check}
use Rattle.seal_core.proofs.clear.ClearSealSeal.seal.Goals as goal

pub returns : goal.returns
unfolding clear_text
returns c =
    let n = length c.args.plain.now in
    let eight : length c.args.nonce ≡ 8 = search rules in
    let first = c.copy_from_slice.ensures.after in
    let body = c.copy_from_slice-2.ensures.after in
    let last = c.copy_from_slice-3.ensures.after ∙ c.check_block.ensures in
    joined c.args.out.now _ _ _ n _ _ c.requires.room (ap length first ∙ eight) (ap length body)
    (ap length last ∙ length-clear_check _ _ _) (omega arith) refl
    ∙ ap₂ (λ (s t : List ℕ). s ++ t) (ap₂ (λ (s t : List ℕ). s ++ t) first body) last
