use Rattle.net_side.proofs.Opened.{one_thing}
use Rattle.net_side.proofs.laws.bytes_hold_one_thing.Goals as goal

pub returns : goal.returns
returns c = λ sealed net bytes a b sealing is is'.
    one_thing sealed net bytes (λ keys x y. c.each_piece_has_a_frame_of_its_own.ensures.apart sealed keys x y sealing)
    a b is is'
