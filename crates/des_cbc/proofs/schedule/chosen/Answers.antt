use Rattle.std.proofs.Common.{arith}
use Rattle.des_cbc.proofs.KeyWords.{low_place, upper_place}
use Rattle.des_cbc.proofs.schedule.chosen.Goals as goal

pub returns-then-place-lt4 : goal.returns-then-place-lt4
returns-then-place-lt4 c = low_place c.args.place c.args.value (omega arith) c.requires.value

pub returns-else-place-lt4 : goal.returns-else-place-lt4
returns-else-place-lt4 c = upper_place c.args.place c.args.value (omega arith) c.requires.place c.requires.value
