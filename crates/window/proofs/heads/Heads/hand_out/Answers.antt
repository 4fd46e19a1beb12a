use Rattle.std.proofs.Common.{length, ◌∙◌}
use Rattle.window.proofs.Changes.{IsWhole, holds_all, out_is, out_held}
use Rattle.window.proofs.heads.Heads.hand_out.Goals as goal

pub copy_part-requires-clause-held : goal.copy_part-requires-clause-held
copy_part-requires-clause-held c =
    let w : IsWhole c.args.self.now c.args.pool.now c.args.message c.quarter_of-quarter.result
    (length c.args.out.now) =
    record {
      keeps = c.requires.keeps;
      full = c.requires.full;
      long = c.requires.length;
      quarter = c.quarter_of-quarter.ensures.quarter;
      small = c.quarter_of-quarter.ensures.small;
    } in
    holds_all c.args.self.now c.args.pool.now c.args.message c.quarter_of-quarter.result (length c.args.out.now)
    c.chain.result.now w c.chain.ensures

pub returns-clause-out : goal.returns-clause-out
returns-clause-out c =
    let w : IsWhole c.args.self.now c.args.pool.now c.args.message c.quarter_of-quarter.result
    (length c.args.out.now) =
    record {
      keeps = c.requires.keeps;
      full = c.requires.full;
      long = c.requires.length;
      quarter = c.quarter_of-quarter.ensures.quarter;
      small = c.quarter_of-quarter.ensures.small;
    } in
    c.copy_part.ensures
    ∙ out_is c.args.self.now c.args.pool.now c.args.message c.quarter_of-quarter.result (length c.args.out.now)
    c.chain.result.now w c.chain.ensures

pub returns-clause-held : goal.returns-clause-held
returns-clause-held c = λ j.
    c.clear.ensures.held j
    ∙ out_held c.args.self.now c.args.pool.now c.args.message c.quarter_of-quarter.result
    c.quarter_of-quarter.ensures.quarter c.requires.full j
