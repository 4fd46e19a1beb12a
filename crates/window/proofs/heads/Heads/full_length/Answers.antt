use Rattle.std.proofs.Common.{◌≡◌, ◌≢◌, ℕ, ◌+◌, ◌*◌, None, Some, false, get_or, sym, ◌∙◌, ap, ap₂, arith}
use Rattle.std.specs.Prelude.{◌==◌}
use Rattle.std.proofs.lemmas.Bool.Decides.{nat_tests}
use Rattle.frame_pool.specs.Pools.{blocks_of}
use Rattle.window.specs.inside.Places.{full_length}
use Rattle.window.specs.inside.Quarters.{quarter_of}
use Rattle.window.proofs.Quarters.{not_held}
use Rattle.window.proofs.Changes.{held_at, places_at, fits_at, full_is, not_full}
use Rattle.window.proofs.heads.Heads.full_length.Goals as goal
use Rattle.window.proofs.heads.Heads.full_length.Goals.{else-head-message-via-then-head-message+else-head-eq0, else-head-message-via-else-head-message}

pub returns-then-head-eq0 : goal.returns-then-head-eq0
returns-then-head-eq0 c = λ pool keeps.
    let a = c.args.self.now in
    let k = c.quarter_of.result in
    let head = c.in-Some.head in
    let f = quarter_of (blocks_of pool a.owner) k in
    let at : get_or a.heads k None ≡ Some head =
    ap (λ n. get_or a.heads n None) (sym c.from.ensures) ∙ c.in-Some.is in
    let fit = fits_at a pool k head keeps c.quarter_of.ensures.small at in
    let none : head.missing ≡ 0 = c.if-head-eq0.true in
    ap₂ (λ (m n : ℕ). Some (88 * m + n)) c.from-then-head-eq0.ensures c.from-then-head-eq0-2.ensures
    ∙ full_is k head f fit none
    ∙ sym (ap full_length
    (places_at a pool k c.args.message head c.quarter_of.ensures.quarter at c.if-head-message.true))

pub returns-else-head-message : goal.returns-else-head-message
returns-else-head-message c = λ pool keeps.
    let a = c.args.self.now in
    let k = c.quarter_of.result in
    let head = c.in-Some.head in
    let f = quarter_of (blocks_of pool a.owner) k in
    let at : get_or a.heads k None ≡ Some head =
    ap (λ n. get_or a.heads n None) (sym c.from.ensures) ∙ c.in-Some.is in
    elim c.else-head-message.branch [
      | else-head-message-via-then-head-message+else-head-eq0 w ↦
          not_full k head f (fits_at a pool k head keeps c.quarter_of.ensures.small at) w.if-head-eq0.false
          ∙ sym (ap full_length
          (places_at a pool k c.args.message head c.quarter_of.ensures.quarter at w.if-head-message.true))
      | else-head-message-via-else-head-message w ↦
          let ne : head.message ≢ c.args.message = w.if-head-message.false in
          let other : (head.message == c.args.message) ≡ false = grind (arith, nat_tests, ne) in
          sym (ap full_length (held_at a pool k c.args.message head c.quarter_of.ensures.quarter at
          ∙ not_held (Some head) f c.args.message other))
    ]
