use Rattle.std.proofs.Common.{ap}
use Rattle.events.specs.ScriptView.{ScriptView}
use Rattle.machine.proofs.Twins.{text_alike}
use Rattle.machine.proofs.laws.twins_have_one_text.Goals as goal

pub returns : goal.returns
returns c = λ level a b same. text_alike level a b (ap (λ (x : ScriptView). x.roster) same) same
