use Rattle.std.proofs.Common.{eq-eqb}
use Rattle.std.proofs.lemmas.Bool.{eqb-true}
use Rattle.std.specs.Prelude.{bit_and}
use Rattle.levels.proofs.Bits.{subset-from_and, and-from_subset}
use Rattle.levels.proofs.level.Level.at_most.Goals as goal

pub returns-then-self-other-clause-order : goal.returns-then-self-other-clause-order
returns-then-self-other-clause-order c =
    let x = c.args.self.now in
    let y = c.args.other.now in (
      λ t. record { rank = c.if-self-other.true; cats = subset-from_and x.cats y.cats (eqb-true _ _ t) },
      λ below. eq-eqb (bit_and x.cats y.cats) x.cats (and-from_subset x.cats y.cats below.cats),
    )
