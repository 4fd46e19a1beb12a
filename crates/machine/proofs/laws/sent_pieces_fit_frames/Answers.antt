use Rattle.machine.proofs.Addresses.{sent_piece}
use Rattle.machine.proofs.laws.sent_pieces_fit_frames.Goals as goal

pub returns : goal.returns
returns c = sent_piece
