use Rattle.std.proofs.Common.{◌<◌, length, ◌∙◌, sym, arith}
use Rattle.events.proofs.Rising.{are_edits, edits_rise}
use Rattle.events.proofs.edits.are_edits.Goals as goal

pub returns-then-pairs-le-EDIT_LIMIT : goal.returns-then-pairs-le-EDIT_LIMIT
returns-then-pairs-le-EDIT_LIMIT c =
    let pairs = c.args.pairs.now in
    let some : 0 < length pairs = grind arith in (
      λ t. are_edits pairs some c.if-pairs-le-EDIT_LIMIT.true.1 (c.are_rising.ensures.bytes t)
          (sym c.are_rising.ensures.rising ∙ t),
      λ h. c.are_rising.ensures.rising ∙ edits_rise pairs h,
    )
