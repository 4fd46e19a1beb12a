-- One more message of a stream.
use Rattle.std.proofs.Common.{◌≡◌, ◌≢◌, List, [], ◌∷◌, ◌++◌, ◌&&◌, refl, append-nil}
use Rattle.std.specs.Prelude.{ℕ, if◌then◌else◌}
use Rattle.levels.specs.declared.level.Party.{Party}
use Rattle.levels.specs.Rosters.{is_same_party}
use Rattle.machine.specs.Machine.{State}
use Rattle.engine.proofs.Cases.{not_right}
use Rattle.engine.proofs.Parties.{same_self, other_not}

-- one more message from u to a party
abbrev pub with_sent : State → Party → Party → List ℕ → State
with_sent x u to message = record x {
  sent = λ s r. x.sent s r ++ (if is_same_party u s && is_same_party to r then message ∷ [] else []);
}

-- the stream to it has the message at its end
pub sent_there : (x : State) (u to : Party) (message : List ℕ)
    → (with_sent x u to message).sent u to ≡ x.sent u to ++ message ∷ []
sent_there x u to message = rw (same_self u, same_self to) refl

-- the streams to others are as they were
pub sent_elsewhere : (x : State) (u to : Party) (message : List ℕ) (r : Party) → to ≢ r
    → (with_sent x u to message).sent u r ≡ x.sent u r
sent_elsewhere x u to message r differ =
    rw (not_right (is_same_party u u) (is_same_party to r) (other_not to r differ))
    (append-nil (x.sent u r))
