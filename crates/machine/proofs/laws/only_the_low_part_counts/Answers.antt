use Rattle.std.proofs.Common.{sym}
use Rattle.machine.proofs.LowPart.{told_low, own_low}
use Rattle.machine.proofs.laws.only_the_low_part_counts.Goals as goal

pub returns : goal.returns
returns c = record {
  own = λ script level r is. sym (told_low script level r (own_low script.roster level r is));
  below = λ script level r within. sym (told_low script level r within);
}
