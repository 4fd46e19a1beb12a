-- What both sides do in a turn.
use Rattle.std.specs.Prelude.{◌≡◌, ℕ, ◌≤◌, List, [], length}
use Rattle.seal_core.specs.Sealing.{Sealer}
use Rattle.host_side.specs.HostView.{HostView}
use Rattle.net_side.specs.NetView.{NetView}
use Rattle.ring_link.specs.declared.link.Link.{Link}
use Rattle.unit_core.specs.Views.{OutgoingView}
use Rattle.unit_core.specs.declared.parts.HostOut.{HostOut}
use Rattle.unit_core.specs.declared.parts.NetOut.{NetOut}
use Rattle.unit_core.specs.inside.Units.{SameUnit, IsAtRest}
use Rattle.unit_core.specs.inside.Sides.{HostTurned, NetTurned}

-- What both sides did, on a link that was at rest, with nothing filled before.
pub record BothTurned (sealed : Sealer) (sends : List OutgoingView) (frames : List (List ℕ))
    (old new : HostView) (net : NetView) (link link' : Link) (host_out host_out' : HostOut)
    (net_out net_out' : NetOut) (heard : ℕ) : Type 0 where
  pub host : HostTurned sends (length frames) old new link.host link'.host host_out host_out'
      heard
  pub net_side : NetTurned sealed net frames 256 link.net link'.net net_out net_out'
  pub unit : SameUnit old net
  pub rest : IsAtRest link
  pub few_sends : length sends ≤ 4
  pub few_frames : length frames ≤ 256
  pub no_answers : host_out.answers.items ≡ []
  pub no_messages : host_out.messages.list ≡ []
  pub no_kinds : net_out.kinds.items ≡ []
  pub no_places : net_out.places.items ≡ []
  pub no_sealed : net_out.sealed.items ≡ []
