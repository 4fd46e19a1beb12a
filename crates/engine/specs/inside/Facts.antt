-- What the crates below promise, as lemmas take it.
use Rattle.std.specs.Prelude.{◌≡◌, ◌≢◌, ℕ, ◌<◌, ◌≤◌, List, [], ◌∷◌, length, true, false, Some, slice_get}
use Rattle.std.specs.List.{flat_map, range_with_len, AllByRecursion}
use Rattle.levels.specs.declared.level.Partition.{Partition}
use Rattle.levels.specs.declared.level.Party.{Party}
use Rattle.levels.specs.declared.level.Party.TheVariants.{Host, Manager}
use Rattle.levels.specs.Kept.{IsRoster}
use Rattle.levels.specs.Rosters.{RosterView, partition_of, is_same_party, is_partner}
use Rattle.seal_core.specs.Sealing.{Sealer, IsSealing}
use Rattle.seal_core.specs.declared.KeyPair.{KeyPair}
use Rattle.frame.specs.Pieces.{PieceView, pieces, piece_bytes, used_bytes, piece_of, IsPiece}
use Rattle.frame.specs.Frames.{frame_of}
use Rattle.frame.specs.Ahead.{messages_ahead}
use Rattle.events.specs.declared.event.Event.{Event}
use Rattle.events.specs.Scripts.{is_known}
use Rattle.net_side.specs.NetView.{NetView}
use Rattle.net_side.specs.Nets.{IsInbound, OpensAt, has_opened}
use Rattle.net_side.specs.declared.inbound.Inbound.{Inbound}
use Rattle.machine.specs.Setup.{Setup}
use Rattle.machine.specs.Low.{place_of}
use Rattle.machine.specs.Machine.{State, address_of, number_of, given_to, sent_by, after, state}
use Rattle.machine.specs.Wire.{frames_of, frames_from}
use Rattle.machine.specs.Laws.{IsOneAtMost, HandsOver, HandsNothing, HandsOne, OneFrame, StaysAt, FramesApart, AreSmall}

-- the pieces of each message hold its bytes
abbrev pub PiecesHold : Type 0
PiecesHold = (message : List ℕ)
    → flat_map (piece_bytes message) (range_with_len 0 (pieces message)) ≡ message

-- each piece carries its part of the message
abbrev pub EachCarries : Type 0
EachCarries = (from to partition message : ℕ) (body : List ℕ) (i : ℕ)
    → used_bytes (piece_of from to partition message body i) ≡ piece_bytes body i

-- laws for all setups and states
pub record Laws : Type 0 where
  pub carries : EachCarries
  pub hold : PiecesHold
  pub frames : (sealed : Sealer) (keys : KeyPair) (x y : PieceView) → IsSealing sealed
      → IsPiece x → IsPiece y → frame_of sealed keys x ≡ frame_of sealed keys y → x ≡ y
  pub once : (sealed : Sealer) (net : NetView) (bytes : List ℕ) (a b : Inbound)
      → IsSealing sealed → IsInbound sealed net bytes a → IsInbound sealed net bytes b → a ≡ b
  pub opens : (sealed : Sealer) (net : NetView) (bytes : List ℕ) (a : Inbound)
      → IsInbound sealed net bytes a → has_opened a ≡ true → OpensAt sealed net bytes
  pub opened : (sealed : Sealer) (net : NetView) (bytes : List ℕ) (a : Inbound)
      → IsInbound sealed net bytes a → OpensAt sealed net bytes → has_opened a ≡ true
  pub nothing : (m : Setup) (x : State) (e : Event) (u : Party)
      → ((s : Party) (j i : ℕ) → ¬ HandsOver m x e s u j i) → HandsNothing m x e u
  pub one : (m : Setup) (x : State) (e : Event) (s u : Party) (j : ℕ) (body : List ℕ)
      → IsRoster m.roster → is_known m.roster s ≡ true → slice_get (x.sent s u) j ≡ Some body
      → ((s' : Party) (j' i : ℕ) → HandsOver m x e s' u j' i → (s' ≡ s) × (j' ≡ j))
      → HandsOne m x e s u j body
  pub at_most : (m : Setup) (x : State) (e : Event) (u : Party) → OneFrame m x e
      → IsRoster m.roster → IsOneAtMost (given_to m x e u)
  pub givers : (m : Setup) (past : List Event) (e : Event) (u : Party)
      → AllByRecursion (λ l. is_partner m.roster l.from u ≡ true) (given_to m (state m past) e u)
  pub partner : (m : Setup) (past : List Event) (s r : Party) (j : ℕ) (body : List ℕ)
      → slice_get ((state m past).sent s r) j ≡ Some body → is_partner m.roster s r ≡ true
  pub no_frames : (m : Setup) (x : State) (e : Event) (s : Party)
      → ((r : Party) → sent_by m x e s r ≡ []) → frames_from m x e s ≡ []
  pub its_frames : (m : Setup) (x : State) (e : Event) (s r : Party) (body : List ℕ)
      → IsRoster m.roster → is_known m.roster r ≡ true → sent_by m x e s r ≡ body ∷ []
      → ((r' : Party) → is_same_party r' r ≡ false → sent_by m x e s r' ≡ [])
      → frames_from m x e s ≡ frames_of m s r (length (x.sent s r)) body
  pub elsewhere : (m : Setup) (e : Event) (x : State) (r : Party)
      → is_same_party (place_of e) r ≡ false → StaysAt r x (after m e x)
  pub sent_piece : (m : Setup) (past : List Event) (s r : Party) (j i : ℕ) (body : List ℕ)
      → IsRoster m.roster → AreSmall (state m past)
      → slice_get ((state m past).sent s r) j ≡ Some body → i < pieces body
      → IsPiece (piece_of (address_of s) (address_of r) (number_of (partition_of m.roster s)) j
      body i)
  pub partition : (roster : RosterView) (s : Party) → IsRoster roster
      → is_known roster s ≡ true → number_of (partition_of roster s) < 16
  pub address : (roster : RosterView) (s : Party) → IsRoster roster
      → is_known roster s ≡ true → address_of s < 256
  pub host : (roster : RosterView) (a : ℕ) → IsRoster roster
      → is_known roster (Host a) ≡ true → (1 ≤ a) × (a ≤ 250)
  pub manager : (roster : RosterView) (p : Partition)
      → is_known roster (Manager p) ≡ true
      → number_of (partition_of roster (Manager p)) ≡ p.0
  pub place : (roster : RosterView) (s r : Party) → IsRoster roster
      → is_known roster s ≡ true → is_known roster r ≡ true
      → number_of (partition_of roster s) ≡ number_of (partition_of roster r)
      → address_of s ≡ address_of r → s ≡ r
  pub both_known : (roster : RosterView) (s r : Party) → is_partner roster s r ≡ true
      → (is_known roster s ≡ true) × (is_known roster r ≡ true)
  pub one_partition : (roster : RosterView) (s r : Party) → is_partner roster s r ≡ true
      → number_of (partition_of roster s) ≡ number_of (partition_of roster r)
  pub differ : (roster : RosterView) (s r : Party) → is_partner roster s r ≡ true → s ≢ r
  pub back : (roster : RosterView) (s r : Party)
      → is_partner roster s r ≡ is_partner roster r s
  pub partners : (roster : RosterView) (s r : Party)
      → is_known roster s ≡ true → is_known roster r ≡ true → s ≢ r
      → number_of (partition_of roster s) ≡ number_of (partition_of roster r)
      → is_partner roster s r ≡ true

-- what holds of the setup and of every state of a script
pub record Fits (m : Setup) (past : List Event) : Type 0 where
  pub roster : IsRoster m.roster
  pub sealing : IsSealing m.sealed
  pub ahead : m.ahead ≡ messages_ahead
  pub small : AreSmall (state m past)
  pub apart : FramesApart m (state m past)
  pub few : (s r : Party) → length ((state m past).sent s r) ≤ 200000
