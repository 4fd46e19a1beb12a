-- A host's side, as it is kept.
use Rattle.std.specs.Prelude.{◌≡◌, ℕ, ◌<◌, ◌∷◌, length, None, is_some, vec_capacity}
use Rattle.std.proofs.Math.ListN.{get_or}
use Rattle.window.specs.Windows.{is_sender, waiting}
use Rattle.host_side.specs.HostView.{HostView}
use Rattle.host_side.specs.declared.host.HostSide.TheInside.{Inside}

abbrev pub view_of : Inside → HostView
view_of a = record {
  address = a.address;
  partition = a.partition;
  streams = a.streams.items;
  window = a.window;
  room = vec_capacity a.streams ∷ a.window.room;
}

-- There is a stream to each partner, and no message waits between two calls.
pub record IsHostSide (host : HostView) : Type 0 where
  pub count : length host.streams ≡ 256
  pub partners : (a : ℕ) → a < 256 → is_sender host.window a ≡ is_some (get_or host.streams a None)
  pub idle : (a : ℕ) → waiting host.window a ≡ None
