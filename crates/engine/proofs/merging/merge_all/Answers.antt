use Rattle.std.proofs.Common.{ℕ, List, [], length, get_or, ap, sym, ◌∙◌, subst}
use Rattle.engine.specs.inside.Merging.{IsMerged}
use Rattle.engine.proofs.Merged.{merges_none}
use Rattle.engine.proofs.OneMerge.{merges_all}
use Rattle.engine.proofs.merging.merge_all.Goals as goal

pub merge_rows-requires-clause-none : goal.merge_rows-requires-clause-none
merge_rows-requires-clause-none c =
    let taken = c.deref_mut.result.now in
    let counts = c.deref_mut-2.result.now in
    subst (IsMerged c.args.wires.now [] taken counts) (sym c.in_ok-frames.ensures.items)
    (merges_none c.args.wires.now taken counts
    (ap length c.deref_mut.ensures.value ∙ c.in_ok-taken.ensures.length)
    (ap length c.deref_mut-2.ensures.value ∙ c.in_ok-counts.ensures.length)
    (λ k. ap (λ (ts : List ℕ). get_or ts k 0) c.deref_mut.ensures.value ∙ c.in_ok-taken.ensures.none k)
    (λ k. ap (λ (cs : List ℕ). get_or cs k 0) c.deref_mut-2.ensures.value ∙ c.in_ok-counts.ensures.none k))

pub returns : goal.returns
returns c = λ rows are. merges_all c.args.sent.now c.args.wires.now c.merge_rows.new.taken
    c.merge_rows.new.counts c.merge_rows.new.frames.items rows c.in_ok-merge_rows.ensures are
