use Rattle.std.proofs.Common.{None, ◌∙◌}
use Rattle.std.specs.Prelude.{◌==◌, ◌%◌}
use Rattle.frame_pool.specs.Pools.{blocks_of}
use Rattle.window.specs.inside.Quarters.{held, quarter_of}
use Rattle.window.proofs.Changes.{changes_cleared, kept_after, held_after, held_none}
use Rattle.window.proofs.heads.Heads.clear.Goals as goal

pub returns-clause-keeps : goal.returns-clause-keeps
returns-clause-keeps c =
    let a = c.args.self.now in
    let pool = c.args.pool.now in
    let after = c.clear_part.new.self in
    kept_after a pool after c.args.quarter c.from-2.result None c.from-2.ensures
    (changes_cleared a pool after c.args.quarter c.from.result c.from.ensures c.requires.keeps c.requires.quarter
    c.clear_part.ensures.blocks c.clear_part.ensures.quotas)

pub returns-clause-held : goal.returns-clause-held
returns-clause-held c = λ j.
    let a = c.args.self.now in
    let pool = c.args.pool.now in
    let after = c.clear_part.new.self in
    held_after a pool after c.args.quarter c.from-2.result None c.from-2.ensures
    (changes_cleared a pool after c.args.quarter c.from.result c.from.ensures c.requires.keeps c.requires.quarter
    c.clear_part.ensures.blocks c.clear_part.ensures.quotas) j
    ∙ held_none (j % 4 == c.args.quarter) (quarter_of (blocks_of after a.owner) c.args.quarter) j (held a pool j)
