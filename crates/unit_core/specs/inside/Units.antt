-- A unit, as it is kept.
use Rattle.std.specs.Prelude.{◌≡◌, ℕ, ◌<◌, ◌∷◌}
use Rattle.host_side.specs.HostView.{HostView}
use Rattle.host_side.specs.Hosts.{has_stream}
use Rattle.net_side.specs.NetView.{NetView}
use Rattle.net_side.specs.Nets.{is_partner}
use Rattle.ring_link.specs.Links.{IsLinked, IsSettled}
use Rattle.ring_link.specs.declared.gate.Side.TheVariants.{Host, Net}
use Rattle.ring_link.specs.declared.link.Link.{Link}
use Rattle.unit_core.specs.Views.{TallyView, UnitView}

-- both sides are of the same unit
pub record SameUnit (host : HostView) (net : NetView) : Type 0 where
  pub address : host.address ≡ net.address
  pub partition : host.partition ≡ net.partition
  pub partners : (a : ℕ) → a < 256 → has_stream host a ≡ is_partner net a

-- The link is at rest: its ends belong together, nothing is on its way, and each backlog has room
-- for 256 pieces.
pub record IsAtRest (link : Link) : Type 0 where
  pub linked : IsLinked link
  pub to_host : IsSettled Host link
  pub to_net : IsSettled Net link
  pub host_room : link.host.room ≡ 256
  pub net_room : link.net.room ≡ 256

abbrev pub unit_of : HostView → NetView → Link → TallyView → UnitView
unit_of host net link tally = record {
  host = host;
  net = net;
  tally = tally;
  room = link.host.capacity ∷ link.net.capacity ∷ host.room;
}
