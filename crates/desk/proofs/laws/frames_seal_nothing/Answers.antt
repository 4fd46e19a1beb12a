use Rattle.std.proofs.Common.{◌∙◌, ap}
use Rattle.unit_core.specs.Sending.{streams_after}
use Rattle.desk.specs.Deeds.{hearings}
use Rattle.desk.proofs.Doing.{no_sends, streams_are, wire_silent}
use Rattle.desk.proofs.laws.frames_seal_nothing.Goals as goal

pub returns-clause-wire : goal.returns-clause-wire
returns-clause-wire c = λ st frames xs. wire_silent st (hearings frames xs) (no_sends st.partition frames xs)

pub returns-clause-streams : goal.returns-clause-streams
returns-clause-streams c = λ st frames xs.
    streams_are st (hearings frames xs) ∙ ap (streams_after st.streams) (no_sends st.partition frames xs)
