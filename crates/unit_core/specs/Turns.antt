-- One turn of a unit, for all lists of pieces that it stands for.
use Rattle.std.specs.Prelude.{◌≡◌, ℕ, ◌+◌, ◌≤◌, List, length, map, All}
use Rattle.std.specs.List.{flat_map}
use Rattle.seal_core.specs.Sealing.{Sealer}
use Rattle.frame.specs.Pieces.{PieceView}
use Rattle.frame.specs.Frames.{frame_of}
use Rattle.host_side.specs.Hosts.{SameNames}
use Rattle.net_side.specs.declared.inbound.Inbound.{Inbound}
use Rattle.unit_core.specs.Views.{OutgoingView, UnitView, OutView}
use Rattle.unit_core.specs.Sending.{streams_after, answers_to, pieces_sent}
use Rattle.unit_core.specs.Hearing.{AreInbound, kind_of, heard_after, given_from, ours_in, StandsForAll, message_in}
use Rattle.unit_core.specs.Tallies.{counted}

-- The unit made a turn on these sends and frames, and filled this.
pub record Turned (sealed : Sealer) (old : UnitView) (sends : List OutgoingView)
    (frames : List (List ℕ)) (new : UnitView) (out : OutView) : Type 0 where
  -- who it is and who its partners are stays, and so do the keys
  pub names : SameNames old.host new.host
  pub net : new.net ≡ old.net
  -- the sends are answered by the next numbers, and the accepted ones sealed piece by piece
  pub streams : new.host.streams ≡ streams_after old.host.streams sends
  pub answers : out.answers ≡ answers_to old.host.streams sends
  pub wire : out.sealed ≡ map (frame_of sealed old.net.keys)
      (pieces_sent old.host.address old.host.partition old.host.streams sends)
  -- what each frame is to the unit
  pub inbounds : List Inbound
  pub each : AreInbound sealed old.net frames inbounds
  pub kinds : out.kinds ≡ map kind_of inbounds
  -- each piece that is the unit's joins what came from its sender, and gives what it completes
  pub heard : (h : ℕ → List PieceView) → StandsForAll old.host h
      → StandsForAll new.host (heard_after h inbounds)
  pub given : (h : ℕ → List PieceView) → StandsForAll old.host h
      → map (message_in out.bodies) out.given ≡ given_from h 0 inbounds
  pub bodies : out.bodies
      ≡ flat_map (λ m. m.body) (map (message_in out.bodies) out.given)
  pub within : All (λ row. row.start + row.length ≤ length out.bodies) out.given
  pub tally : new.tally ≡ counted old.tally (length out.sealed) (ours_in inbounds)
      (length out.given)
  -- no memory is taken
  pub room : new.room ≡ old.room
