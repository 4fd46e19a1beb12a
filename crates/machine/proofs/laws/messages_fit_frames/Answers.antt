use Rattle.machine.proofs.Small.{small_at, few_at}
use Rattle.machine.proofs.laws.messages_fit_frames.Goals as goal

pub returns : goal.returns
returns c = record {
  small = small_at c.each_piece_has_a_frame_of_its_own.ensures.apart;
  few = few_at c.each_piece_has_a_frame_of_its_own.ensures.apart;
}
