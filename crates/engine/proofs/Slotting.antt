-- How the desks of all parties change.
use Rattle.std.proofs.Common.{◌≡◌, ◌≢◌, ℕ, List, [], ◌∷◌, true, false, Option, Some, None, refl, sym, ap, ap₂, subst, ◌∙◌, ◌⊎◌, inl, inr}
use Rattle.std.specs.Prelude.{slice_index}
use Rattle.levels.specs.declared.level.Party.{Party}
use Rattle.seal_core.specs.Sealing.{Sealer}
use Rattle.frame.specs.Pieces.{PieceView}
use Rattle.frame.specs.Frames.{header, frame_of, HasHeader}
use Rattle.events.specs.declared.event.Event.{Event}
use Rattle.events.specs.Scripts.{is_known}
use Rattle.net_side.specs.NetView.{NetView}
use Rattle.net_side.specs.Nets as net_side
use Rattle.net_side.specs.Nets.{IsInbound}
use Rattle.net_side.specs.declared.inbound.Inbound.{Inbound}
use Rattle.net_side.specs.declared.inbound.Inbound.TheVariants.{Foreign, Closed, Malformed, NotMine, Ours}
use Rattle.unit_core.specs.Hearing.{AreInbound}
use Rattle.machine.specs.Setup.{Setup}
use Rattle.machine.specs.Machine.{state}
use Rattle.machine.specs.FalseBytes.{IsSentFrame}
use Rattle.desk.specs.Batches.{Batches, nothing, is_empty, flush, join_or_flush, turn_alone}
use Rattle.seal_core.specs.declared.KeyPair.{KeyPair}
use Rattle.unit_core.specs.Views.{OutgoingView}
use Rattle.desk.specs.Views.{BatchView, DeskView, no_batch}
use Rattle.desk.specs.Deeds.{DeskState, Deed, says, hears, did, does, hearings, heard}
use Rattle.desk.specs.Desks.{At, sends_in, frames_in, order_in}
use Rattle.engine.specs.Turns.{partition_number}
use Rattle.engine.specs.States.{NetIs}
use Rattle.engine.specs.inside.Standing.{SlotAt, SlotMoves, SlotHears}
use Rattle.engine.proofs.Cases.{bool_cases, nat_cases}
use Rattle.engine.specs.inside.Facts.{Laws, Fits}
use Rattle.engine.proofs.Inbounds.{its_piece}

-- ---- one slot

pub slot_moves : (m : Setup) (u : Party) (b : Batches) (P Q : DeskState → Type 0)
    (f : DeskState → DeskState) (g : Batches → Batches) (old new : Option DeskView)
    → SlotMoves m.sealed f g old new → ((st : DeskState) → P st → Q (f st))
    → SlotAt m u b P old → SlotAt m u (g b) Q new
slot_moves m u b P Q f g None None moves keeps at = at
slot_moves m u b P Q f g None (Some new) moves keeps at = absurd moves
slot_moves m u b P Q f g (Some old) None moves keeps at = absurd moves
slot_moves m u b P Q f g (Some old) (Some new) moves keeps at = record {
  known = at.known;
  net = subst (NetIs m u) (sym moves.net) at.net;
  st = f at.st;
  at = moves.at at.st b at.at;
  is = keeps at.st at.is;
}

pub slot_stays : (m : Setup) (u : Party) (b b' : Batches) (P Q : DeskState → Type 0)
    (slot : Option DeskView) → b' ≡ b → ((st : DeskState) → P st → Q st) → SlotAt m u b P slot
    → SlotAt m u b' Q slot
slot_stays m u b b' P Q None same keeps at = at
slot_stays m u b b' P Q (Some desk) same keeps at = record {
  known = at.known;
  net = at.net;
  st = at.st;
  at = subst (At m.sealed desk at.st) (sym same) at.at;
  is = keeps at.st at.is;
}

-- a slot that hears frames, whatever they hold
pub slot_hears : (m : Setup) (u : Party) (b : Batches) (P Q : DeskState → Type 0)
    (frames : List (List ℕ)) (g : Batches → Batches) (old new : Option DeskView)
    → SlotHears m.sealed frames g old new
    → ((net : NetView) → NetIs m u net → is_known m.roster u ≡ true
    → (ws : List Inbound) × AreInbound m.sealed net frames ws)
    → ((net : NetView) (ws : List Inbound) (st : DeskState) → NetIs m u net
    → is_known m.roster u ≡ true → AreInbound m.sealed net frames ws → P st
    → Q (does st (hearings frames ws)))
    → SlotAt m u b P old → SlotAt m u (g b) Q new
slot_hears m u b P Q frames g None None hears_all exist keeps at = at
slot_hears m u b P Q frames g None (Some new) hears_all exist keeps at = absurd hears_all
slot_hears m u b P Q frames g (Some old) None hears_all exist keeps at = absurd hears_all
slot_hears m u b P Q frames g (Some old) (Some new) hears_all exist keeps at =
    let in_ws = exist old.unit.net at.net at.known in
    let moves = hears_all in_ws.0 in_ws.1 in
    record {
      known = at.known;
      net = subst (NetIs m u) (sym moves.net) at.net;
      st = does at.st (hearings frames in_ws.0);
      at = moves.at at.st b at.at;
      is = keeps old.unit.net in_ws.0 at.st at.net at.known in_ws.1 at.is;
    }

-- ---- batches

pub flush_twice : (b : Batches) → flush (flush b) ≡ flush b
flush_twice b = elim (bool_cases (is_empty b.batch)) [
  | inl none ↦ rw (none, none) refl
  | inr some ↦ rw some refl
]

-- to flush first changes nothing where frames are a turn of their own
pub alone_flushed : (frames : List (List ℕ)) (b : Batches)
    → turn_alone frames (flush b) ≡ turn_alone frames b
alone_flushed frames b = ap (λ c. flush (join_or_flush frames c)) (flush_twice b)

-- ---- an idle desk

pub no_deeds : (deeds : List Deed) → order_in deeds ≡ [] → deeds ≡ []
no_deeds [] none = refl
no_deeds (says to message ∷ deeds) none = cc
no_deeds (hears frame inbound ∷ deeds) none = cc

-- an idle desk has an empty batch, and is at its state
pub idle_batch : (sealed : Sealer) (desk : DeskView) (st : DeskState) (b : Batches)
    → desk.batch ≡ no_batch → At sealed desk st b → b.batch ≡ nothing
idle_batch sealed desk st b idle at =
    let order : order_in at.deeds ≡ [] = sym at.order ∙ ap (λ (c : BatchView). c.order) idle in
    let none = no_deeds at.deeds order in
    let sends : b.batch.sends ≡ [] = at.open_sends ∙ ap (sends_in at.start.partition) none in
    let frames : b.batch.frames ≡ [] = at.open_frames ∙ ap frames_in none in
    ap₂ (λ (s : List OutgoingView) (f : List (List ℕ)). record { sends = s; frames = f }) sends frames

pub idle_flush : (b : Batches) → b.batch ≡ nothing → flush b ≡ b
idle_flush b none = let e : is_empty b.batch ≡ true = ap is_empty none in rw e refl

partition_kept : (st : DeskState) (deeds : List Deed) → (does st deeds).partition ≡ st.partition
partition_kept st [] = refl
partition_kept st (says to message ∷ deeds) = partition_kept (did st (says to message)) deeds
partition_kept st (hears frame inbound ∷ deeds) =
    partition_kept (did st (hears frame inbound)) deeds ∙ heard_partition st inbound
  where
    heard_partition : (st : DeskState) (inbound : Inbound) → (heard st inbound).partition ≡ st.partition
    heard_partition st Foreign = refl
    heard_partition st Closed = refl
    heard_partition st Malformed = refl
    heard_partition st NotMine = refl
    heard_partition st (Ours x) = refl

-- the partition of a unit is that of its state
pub unit_partition : (sealed : Sealer) (desk : DeskView) (st : DeskState) (b : Batches)
    → At sealed desk st b → desk.unit.host.partition ≡ st.partition
unit_partition sealed desk st b at =
    at.now.partition ∙ sym (partition_kept at.start at.deeds) ∙ ap (λ (s : DeskState). s.partition) at.is

-- ---- what sent frames hold

-- bytes have the header of one partition
header_at : (sealed : Sealer) (keys : KeyPair) (x : PieceView) (p : ℕ)
    → HasHeader p (frame_of sealed keys x) → x.partition ≡ p
unfolding frame_of header
header_at sealed keys x p has = ap (λ bytes. slice_index bytes 3) has

-- a frame that was sent holds something to each unit
pub sent_inbound : Laws → (m : Setup) (past : List Event) (net : NetView) (s r u : Party) (j i : ℕ)
    (bytes : List ℕ) → Fits m past → NetIs m u net
    → IsSentFrame m (state m past) s r j i bytes
    → (w : Inbound) × IsInbound m.sealed net bytes w
sent_inbound laws m past net s r u j i bytes fits is f =
    by (nat_cases (partition_number m s) (partition_number m u)) (bool_cases (net_side.is_for net x))
  where
    x : PieceView
    x = its_piece m s r j f.body i

    is_frame : partition_number m s ≡ partition_number m u
        → net_side.IsFrameAt m.sealed net bytes (its_piece m s r j f.body i)
    is_frame same = record {
      piece = laws.sent_piece m past s r j i f.body fits.roster fits.small f.sent f.piece;
      own = same ∙ sym is.partition;
      same = f.same ∙ ap (λ k. frame_of m.sealed k (its_piece m s r j f.body i))
          (ap m.keys same ∙ sym is.keys);
    }

    by : (partition_number m s ≡ partition_number m u) ⊎ (partition_number m s ≢ partition_number m u)
        → (net_side.is_for net (its_piece m s r j f.body i) ≡ true)
        ⊎ (net_side.is_for net (its_piece m s r j f.body i) ≡ false)
        → (w : Inbound) × IsInbound m.sealed net bytes w
    by (inr differ) own = (
      Foreign,
      λ has. differ (header_at m.sealed (m.keys (partition_number m s))
          (its_piece m s r j f.body i) net.partition (subst (HasHeader net.partition) f.same has)
          ∙ is.partition),
    )
    by (inl same) (inl own) = (Ours (its_piece m s r j f.body i), (is_frame same, own))
    by (inl same) (inr other) = (NotMine, (its_piece m s r j f.body i, is_frame same, other))
