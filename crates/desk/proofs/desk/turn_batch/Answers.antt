use Rattle.std.proofs.Common.{map, sym, ◌∙◌, ap}
use Rattle.frame.specs.Frames.{frame_of}
use Rattle.desk.specs.inside.Merging.{size_of}
use Rattle.desk.proofs.Doing.{covered}
use Rattle.desk.proofs.desk.turn_batch.Goals as goal

pub keep-requires : goal.keep-requires
keep-requires g c =
    let old = c.args.unit.now in
    let t = c.turn.ensures.turned in
    covered c.order-2.result.now c.sends.result.now old.host.address old.host.partition old.host.streams
    (frame_of g.S.Seal.sealed_text old.net.keys) c.turn.new.out c.answers-2.result.now c.sealed.result.now
    (c.order-2.ensures.sizes ∙ ap (map size_of) (sym c.sends.ensures.sends))
    c.answers-2.ensures t.answers c.sealed.ensures t.wire
