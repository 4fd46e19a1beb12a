use Rattle.std.proofs.lemmas.Bool.Decides.{same_from_decides}
use Rattle.levels.proofs.SameKeys.{is_same_key-Decides}
use Rattle.levels.proofs.keys.is_same_key.Goals as goal

pub returns : goal.returns
returns c = same_from_decides _ _ c.same_key.ensures (is_same_key-Decides c.args.a.now c.args.b.now)
