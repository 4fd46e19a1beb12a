use Rattle.std.proofs.Common.{List, ℕ, [], ◌∷◌, ◌++◌, ap}
use Rattle.frame.specs.Frames.{nonce_of}
use Rattle.frame.proofs.sealed.nonce_of.Goals as goal

pub returns : goal.returns
unfolding nonce_of
returns c = ap (λ (t : List ℕ). t ++ 0 ∷ []) c.copy_from_slice.ensures.after
