use Rattle.events.proofs.Rising.{kept_edits}
use Rattle.events.proofs.edits.Edits.new.Goals as goal

pub invariant_of-result : goal.invariant_of-result
invariant_of-result c = kept_edits c.args.pairs.now c.copy_from_slice.new.self
    (c.are_edits.ensures.0 c.if-not-are_edits.false) c.copy_from_slice.ensures.after
