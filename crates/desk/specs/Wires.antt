-- What a unit has sealed.
use Rattle.std.specs.Prelude.{ℕ, List, [], ◌∷◌, ◌++◌, replicate, unwrap_or, slice_get}
use Rattle.std.proofs.Math.ListN.{get_or, set}

-- the frames that a unit sealed, in order, and for each address from 0 the messages to it, each as
-- its frames
pub record WireView : Type 0 where
  pub frames : List (List ℕ)
  pub messages : List (List (List (List ℕ)))

-- nothing is sealed yet
abbrev pub no_wire : WireView
no_wire = record { frames = []; messages = replicate 256 [] }

-- the messages to an address
abbrev pub messages_to : WireView → ℕ → List (List (List ℕ))
messages_to wire to = get_or wire.messages to []

-- the frames of message j to an address: none where it isn't sealed
abbrev pub message_frames : WireView → ℕ → ℕ → List (List ℕ)
message_frames wire to j = unwrap_or (slice_get (messages_to wire to) j) []

-- one more message to an address, with these frames
abbrev pub with_message : WireView → ℕ → List (List ℕ) → WireView
with_message wire to frames = record {
  frames = wire.frames ++ frames;
  messages = set wire.messages to (messages_to wire to ++ frames ∷ []);
}
