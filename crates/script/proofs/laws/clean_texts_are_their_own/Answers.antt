use Rattle.script.proofs.Outcomes.{clean_text}
use Rattle.script.proofs.laws.clean_texts_are_their_own.Goals as goal

pub returns : goal.returns
returns c = clean_text
