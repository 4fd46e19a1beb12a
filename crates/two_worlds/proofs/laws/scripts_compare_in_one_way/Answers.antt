use Rattle.two_worlds.proofs.OneWay.{one_way}
use Rattle.two_worlds.proofs.laws.scripts_compare_in_one_way.Goals as goal

pub returns : goal.returns
returns c = one_way
