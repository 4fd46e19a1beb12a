-- What each side does in a turn.
use Rattle.std.specs.Prelude.{◌≡◌, ℕ, ◌+◌, ◌≤◌, List, ◌++◌, length, map, vec_capacity}
use Rattle.seal_core.specs.declared.KeyPair.{KeyPair}
use Rattle.seal_core.specs.Sealing.{Sealer}
use Rattle.frame.specs.Pieces.{PieceView}
use Rattle.frame.specs.Frames.{frame_of}
use Rattle.host_side.specs.HostView.{HostView}
use Rattle.host_side.specs.Hosts.{SameNames}
use Rattle.ring_link.specs.EndView.{EndView}
use Rattle.ring_link.specs.Ends.{received_by, taken_by, spare}
use Rattle.net_side.specs.NetView.{NetView}
use Rattle.net_side.specs.declared.inbound.Inbound.{Inbound}
use Rattle.unit_core.specs.Views.{OutgoingView}
use Rattle.unit_core.specs.Sending.{streams_after, answers_to, pieces_sent}
use Rattle.unit_core.specs.Hearing.{AreInbound, kind_of, heard_after, given_from, StandsForAll}
use Rattle.unit_core.specs.inside.Messages.{MessagesView, AreFew}
use Rattle.unit_core.specs.inside.Outs.{SameRoom}
use Rattle.unit_core.specs.inside.Ours.{pieces_in, places_from, as_ours, mine}
use Rattle.unit_core.specs.inside.Ends.{StaysEnd}
use Rattle.unit_core.specs.declared.parts.HostOut.{HostOut}
use Rattle.unit_core.specs.declared.parts.NetOut.{NetOut}

-- The host's side takes these sends, and offers the pieces of those that it accepts.
pub record SendsAll (sends : List OutgoingView) (old new : HostView) (end end' : EndView)
    : Type 0 where
  pub names : SameNames old new
  pub window : new.window ≡ old.window
  pub room : new.room ≡ old.room
  pub streams : new.streams ≡ streams_after old.streams sends
  pub taken : taken_by end'
      ≡ taken_by end ++ pieces_sent old.address old.partition old.streams sends
  pub received : received_by end' ≡ received_by end
  pub same : StaysEnd end end'

-- It hears these pieces, which are for it, the first of them being the n-th of the turn.
pub record Hears (old new : HostView) (n : ℕ) (pieces : List PieceView)
    (before after : MessagesView) : Type 0 where
  pub names : SameNames old new
  pub streams : new.streams ≡ old.streams
  pub room : new.room ≡ old.room
  pub heard : (h : ℕ → List PieceView) → StandsForAll old h
      → StandsForAll new (heard_after h (as_ours pieces))
  pub given : (h : ℕ → List PieceView) → StandsForAll old h
      → after.list ≡ before.list ++ given_from h n (as_ours pieces)
  pub few : (k : ℕ) → AreFew k before.list → AreFew (k + length pieces) after.list
  pub memory : after.room ≡ before.room

-- It hears what comes in so many polls, as far as it is for it.
pub record HearsSome (polls : ℕ) (old new : HostView) (end end' : EndView)
    (before after : MessagesView) (heard : ℕ) : Type 0 where
  pub came : List PieceView
  pub received : received_by end' ≡ received_by end ++ came
  pub hears : Hears old new 0 (mine old came) before after
  pub count : heard ≡ length (mine old came)
  pub few : heard ≤ polls
  pub taken : taken_by end' ≡ taken_by end
  pub same : StaysEnd end end'

-- It takes the sends, and then hears what comes.
pub record HostTurned (sends : List OutgoingView) (polls : ℕ) (old new : HostView)
    (end end' : EndView) (before after : HostOut) (heard : ℕ) : Type 0 where
  pub between : HostView
  pub end_between : EndView
  pub sends_all : SendsAll sends old between end end_between
  pub hears_some : HearsSome polls between new end_between end' before.messages after.messages
      heard
  pub answers : after.answers.items ≡ before.answers.items ++ answers_to old.streams sends
  pub memory : vec_capacity after.answers ≡ vec_capacity before.answers

-- The network's side opens these frames, the first of them being the n-th of the turn, and offers
-- the pieces that are the unit's.
pub record Opens (sealed : Sealer) (net : NetView) (n : ℕ) (frames : List (List ℕ))
    (end end' : EndView) (before after : NetOut) : Type 0 where
  pub inbounds : List Inbound
  pub each : AreInbound sealed net frames inbounds
  pub kinds : after.kinds.items ≡ before.kinds.items ++ map kind_of inbounds
  pub places : after.places.items ≡ before.places.items ++ places_from n inbounds
  pub untouched : after.sealed.items ≡ before.sealed.items
  pub taken : taken_by end' ≡ taken_by end ++ pieces_in inbounds
  pub received : received_by end' ≡ received_by end
  pub spare : spare end ≤ spare end' + length frames
  pub same : StaysEnd end end'
  pub memory : SameRoom before after

-- It seals these pieces.
pub record Seals (sealed : Sealer) (keys : KeyPair) (pieces : List PieceView)
    (before after : NetOut) : Type 0 where
  pub frames : after.sealed.items ≡ before.sealed.items ++ map (frame_of sealed keys) pieces
  pub kinds : after.kinds.items ≡ before.kinds.items
  pub places : after.places.items ≡ before.places.items
  pub memory : SameRoom before after

-- It seals what comes in so many polls.
pub record SealsSome (sealed : Sealer) (keys : KeyPair) (polls : ℕ) (end end' : EndView)
    (before after : NetOut) : Type 0 where
  pub came : List PieceView
  pub received : received_by end' ≡ received_by end ++ came
  pub seals : Seals sealed keys came before after
  pub few : length came ≤ polls
  pub taken : taken_by end' ≡ taken_by end
  pub same : StaysEnd end end'

-- It opens the frames, and then seals what comes.
pub record NetTurned (sealed : Sealer) (net : NetView) (frames : List (List ℕ)) (polls : ℕ)
    (end end' : EndView) (before after : NetOut) : Type 0 where
  pub between : NetOut
  pub end_between : EndView
  pub opens : Opens sealed net 0 frames end end_between before between
  pub seals_some : SealsSome sealed net.keys polls end_between end' between after
