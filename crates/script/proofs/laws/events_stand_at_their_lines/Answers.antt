use Rattle.script.proofs.Standing.{events_stand}
use Rattle.script.proofs.laws.events_stand_at_their_lines.Goals as goal

pub returns : goal.returns
returns c = events_stand
