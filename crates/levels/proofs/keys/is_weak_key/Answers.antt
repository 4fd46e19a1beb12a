use Rattle.std.proofs.lemmas.Bool.Decides.{same_from_decides}
use Rattle.levels.proofs.SameKeys.{is_weak-Decides}
use Rattle.levels.proofs.keys.is_weak_key.Goals as goal

pub returns-clause-weak : goal.returns-clause-weak
returns-clause-weak c = same_from_decides _ _ c.is_weak.ensures (is_weak-Decides c.args.key.now)

pub returns-clause-block : goal.returns-clause-block
returns-clause-block c = record { len = c.told-key; bytes = record { below = c.fits-key } }
