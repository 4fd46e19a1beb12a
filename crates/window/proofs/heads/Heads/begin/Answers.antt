use Rattle.std.proofs.Common.{◌≡◌, ℕ, ◌<◌, ◌+◌, subst, List, Option, None, Some, false, get_or, sym, ◌∙◌, ap, arith, get_or-set_same}
use Rattle.std.specs.Prelude.{◌%◌}
use Rattle.frame_pool.specs.Pools.{blocks_of}
use Rattle.window.specs.inside.Places.{nothing_held}
use Rattle.window.specs.inside.Quarters.{held, quarter_of, is_of, FitsIn}
use Rattle.window.specs.declared.heads.Head.{Head}
use Rattle.window.proofs.Quarters.{fresh_places}
use Rattle.window.proofs.Changes.{Changes, changes_begun, kept_after, held_after, held_not, begun_is}
use Rattle.window.proofs.heads.Heads.begin.Goals as goal

-- the head that is written, and what it changes
abbrev fresh : goal.After-way_told-2-1 → Head
fresh c = record { message = c.message-3.result; last = c.last.result; tail = 88; missing = c.last-2.result + 1 }

cleared : (c : goal.After-way_told-2-1) → get_or c.clear.new.self.heads c.quarter_of-quarter.result None ≡ None
cleared c =
    let k = c.quarter_of-quarter.result in
    ap (λ (hs : List (Option Head)). get_or hs k None) c.clear.ensures.heads
    ∙ get_or-set_same c.args.self.now.heads k None None
    (omega (arith, c.requires.heads, c.quarter_of-quarter.ensures.small))

changed : (c : goal.After-way_told-2-1)
    → Changes c.clear.new.self c.clear.new.pool c.clear.new.pool c.quarter_of-quarter.result (Some (fresh c))
changed c =
    let k = c.quarter_of-quarter.result in
    changes_begun c.clear.new.self c.clear.new.pool k (fresh c) c.clear.ensures.keeps
    c.quarter_of-quarter.ensures.small (cleared c)
    (ap (λ n. n % 4) (c.message-3.ensures.message ∙ sym c.message.ensures.message)
    ∙ sym c.quarter_of-quarter.ensures.quarter)
    (omega (arith, c.last.ensures.last, c.last.ensures.kept.last)) (omega arith)
    (omega (arith, c.last.ensures.last, c.last-2.ensures.last))

empty : (c : goal.After-way_told-2-1) → (i : ℕ) → i < 64
    → quarter_of (blocks_of c.clear.new.pool c.clear.new.self.owner) c.quarter_of-quarter.result i ≡ None
empty c =
    let k = c.quarter_of-quarter.result in
    subst (λ (o : Option Head). FitsIn k o (quarter_of (blocks_of c.clear.new.pool c.clear.new.self.owner) k))
    (cleared c) (c.clear.ensures.keeps.fit k c.quarter_of-quarter.ensures.small)

pub returns-clause-keeps : goal.returns-clause-keeps
returns-clause-keeps c =
    kept_after c.clear.new.self c.clear.new.pool c.clear.new.pool c.quarter_of-quarter.result c.from-2.result
    (Some (fresh c)) c.from-2.ensures (changed c)

pub returns-clause-held : goal.returns-clause-held
returns-clause-held c =
    let k = c.quarter_of-quarter.result in
    let a = c.clear.new.self in
    let pool = c.clear.new.pool in
    let x = c.args.piece.now in
    let f = quarter_of (blocks_of pool a.owner) k in
    let ch = changed c in
    let quarter : k ≡ x.message % 4 =
    c.quarter_of-quarter.ensures.quarter ∙ ap (λ n. n % 4) c.message.ensures.message in
    let other : is_of x.message (get_or c.args.self.now.heads k None) ≡ false =
    ap (λ n. is_of n (get_or c.args.self.now.heads k None)) (sym c.message-2.ensures.message)
    ∙ ap (λ n. is_of c.message-2.result (get_or c.args.self.now.heads n None)) (sym c.from.ensures)
    ∙ sym c.is_of.ensures ∙ c.if-is_of.false in
    begun_is (held c.args.self.now c.args.pool.now) (held a pool) _ x k (fresh c) f quarter c.message-3.ensures.message
    (fresh_places (fresh c) f (omega (arith, c.last.ensures.last, c.last.ensures.kept.last))
    (empty c) ∙ ap nothing_held c.last.ensures.last)
    (held_not c.args.self.now c.args.pool.now x.message k quarter other)
    c.clear.ensures.held
    (held_after a pool pool k c.from-2.result (Some (fresh c)) c.from-2.ensures ch)
