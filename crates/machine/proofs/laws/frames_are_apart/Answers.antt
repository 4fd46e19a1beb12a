use Rattle.machine.proofs.FramesApart.{frames_apart}
use Rattle.machine.proofs.Small.{apart_at}
use Rattle.machine.proofs.laws.frames_are_apart.Goals as goal

pub returns : goal.returns
returns c = record {
  setup = frames_apart c.each_piece_has_a_frame_of_its_own.ensures.apart;
  script = apart_at c.each_piece_has_a_frame_of_its_own.ensures.apart;
}
