use Rattle.machine.proofs.RosterKeys.{keys_there, guard_there}
use Rattle.machine.proofs.laws.a_script_has_all_keys.Goals as goal

pub returns : goal.returns
returns c = record {
  levels = λ script p is inside. keys_there script.roster p.0 is.complete inside;
  guard = λ script is. guard_there script.roster is.complete;
}
