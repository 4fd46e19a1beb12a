-- What a turn fills, as it is kept.
use Rattle.std.specs.Prelude.{◌≡◌, ◌∷◌, ◌++◌, [], vec_capacity}
use Rattle.unit_core.specs.Views.{OutView}
use Rattle.unit_core.specs.inside.Messages.{joined, rows_from}
use Rattle.unit_core.specs.declared.parts.HostOut.{HostOut}
use Rattle.unit_core.specs.declared.parts.NetOut.{NetOut}
use Rattle.unit_core.specs.declared.out.TurnOut.TheInside.{Inside}

-- what both sides filled
abbrev pub out_of : HostOut → NetOut → OutView
out_of host net = record {
  answers = host.answers.items;
  kinds = net.kinds.items;
  sealed = net.sealed.items;
  given = rows_from 0 host.messages.list;
  bodies = joined host.messages.list;
  room = vec_capacity host.answers ∷ vec_capacity net.kinds ∷ vec_capacity net.places
      ∷ vec_capacity net.sealed ∷ host.messages.room;
}

abbrev pub view_of : Inside → OutView
view_of a = out_of a.host a.net

-- the network's side has the same room
pub record SameRoom (old new : NetOut) : Type 0 where
  pub kinds : vec_capacity new.kinds ≡ vec_capacity old.kinds
  pub places : vec_capacity new.places ≡ vec_capacity old.places
  pub sealed : vec_capacity new.sealed ≡ vec_capacity old.sealed
