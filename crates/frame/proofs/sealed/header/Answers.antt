use Rattle.std.proofs.Common.{refl}
use Rattle.frame.specs.Frames.{header}
use Rattle.frame.proofs.sealed.header.Goals as goal

pub returns : goal.returns
unfolding header
returns c = refl
