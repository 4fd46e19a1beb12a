-- Each step keeps all pieces of both directions, in order.
use Rattle.std.proofs.Common.{◌≡◌, List, [], ◌∷◌, refl, ◌∙◌, ap, append-nil, arith}
use Rattle.std.proofs.lemmas.Grind.{common_steps}
use Rattle.frame.specs.Pieces.{PieceView}
use Rattle.ring_link.specs.Sides.{other_side}
use Rattle.ring_link.specs.Steps.{Direction, State, towards, Kind, Offer, Push, Pop, Drain, Moves, Step, Leads, start_with, all_pieces, IsFinished}
use Rattle.ring_link.specs.declared.gate.Side.{Side}
use Rattle.ring_link.specs.declared.gate.Side.TheVariants.{Host, Net}

move_keeps : (kind : Kind) (old new : Direction) → Moves kind old new → all_pieces new ≡ all_pieces old
move_keeps Offer old new m = rw (m.backlog, m.ring, m.received, m.todo) (grind (arith, common_steps))
move_keeps Push old new m = rw (m.backlog, m.ring, m.received, m.todo) (grind (arith, common_steps))
move_keeps Pop old new m = rw (m.backlog, m.ring, m.received, m.todo) (grind (arith, common_steps))
move_keeps Drain old new m = rw (m.backlog, m.ring, m.received, m.todo, m.empty) (grind (arith, common_steps))

-- both directions have the same pieces
record SamePieces (old new : State) : Type 0 where
  to_host : all_pieces new.to_host ≡ all_pieces old.to_host
  to_net : all_pieces new.to_net ≡ all_pieces old.to_net

step_keeps : (side : Side) (kind : Kind) (old new : State)
    → Moves kind (towards side old) (towards side new)
    → towards (other_side side) new ≡ towards (other_side side) old → SamePieces old new
step_keeps Host kind old new own other = record {
  to_host = move_keeps kind old.to_host new.to_host own;
  to_net = ap all_pieces other;
}
step_keeps Net kind old new own other = record {
  to_host = ap all_pieces other;
  to_net = move_keeps kind old.to_net new.to_net own;
}

steps_keep : (steps : List Step) (old new : State) → Leads steps old new → SamePieces old new
steps_keep [] old new leads = rw leads (record { to_host = refl; to_net = refl })
steps_keep (step ∷ later) old new leads =
    let s = leads.0 in
    let first = step_keeps step.side step.kind old s leads.1.own leads.1.other in
    let rest = steps_keep later s new leads.2 in
    record { to_host = rest.to_host ∙ first.to_host; to_net = rest.to_net ∙ first.to_net }

-- from a start all pieces are those that were to go
pub all_arrive : (to_host to_net : List PieceView) (steps : List Step) (s : State)
    → Leads steps (start_with to_host to_net) s
    → (all_pieces s.to_host ≡ to_host) × (all_pieces s.to_net ≡ to_net)
all_arrive to_host to_net steps s leads =
    let kept = steps_keep steps (start_with to_host to_net) s leads in (kept.to_host, kept.to_net)

-- in a finished direction all pieces are received
pub all_received : (d : Direction) → IsFinished d → all_pieces d ≡ d.received
all_received d f = rw (f.ring, f.backlog, f.todo, append-nil, append-nil, append-nil) refl
