use Rattle.desk.proofs.Calls.{both_ok, heard_alone}
use Rattle.desk.proofs.desk.Desk.turn_alone.Goals as goal

pub returns-clause-hears : goal.returns-clause-hears
returns-clause-hears g c =
    both_ok c.flush-2.result
    (heard_alone g.S.Seal.sealed_text c.args.frames.now c.flush-2.new.out.kinds c.args.self.now c.flush.new.self
    c.take.new.self c.flush-2.new.self
    c.in_ok-flush.ensures.moves c.in_ok-flush.ensures.idle c.in_ok-take.ensures.hears c.in_ok-take.ensures.frames
    c.in_ok-take.ensures.net)
    c.flush-2.ensures.moves c.flush-2.ensures.kinds
