use Rattle.std.proofs.Common.{sym, ◌∙◌}
use Rattle.std.proofs.lemmas.Slice.Eq.{slice_eq-Decides}
use Rattle.two_worlds.proofs.Lists.{pair_decides}
use Rattle.two_worlds.proofs.same.same_edits.Goals as goal

pub returns : goal.returns
returns c =
    let first = c.pairs.ensures.pairs in
    let second = c.pairs-2.ensures.pairs in
    let d = slice_eq-Decides pair_decides c.pairs.result.now c.pairs-2.result.now c.eq.result c.eq.ensures in
    (λ t. sym first ∙ d.0 t ∙ second, λ e. d.1 (first ∙ e ∙ sym second))
