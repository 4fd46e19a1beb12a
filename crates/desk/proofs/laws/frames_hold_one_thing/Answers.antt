use Rattle.desk.proofs.Turning.{same_inbounds}
use Rattle.desk.proofs.laws.frames_hold_one_thing.Goals as goal

pub returns : goal.returns
returns g c = λ net frames xs ys are are'.
    let sealed = g.S.Seal.sealed_text in
    same_inbounds sealed net
    (λ bytes a b. c.bytes_hold_one_thing.ensures sealed net bytes a b g.met.S.Seal.laws) frames xs ys are are'
