-- Frames that were sent are something to each unit.
use Rattle.std.proofs.Common.{◌≡◌, ◌≢◌, ℕ, suc, List, [], ◌∷◌, true, false, Option, Some, None, refl, sym, ap, subst, ◌∙◌, ◌⊎◌, inl, inr, arith}
use Rattle.std.specs.Prelude.{◌==◌, slice_get, slice_index, option_to_list}
use Rattle.std.proofs.lemmas.Bool.Decides.{nat_tests}
use Rattle.levels.specs.declared.level.Party.{Party}
use Rattle.seal_core.specs.declared.KeyPair.{KeyPair}
use Rattle.seal_core.specs.Sealing.{Sealer}
use Rattle.frame.specs.Pieces.{PieceView}
use Rattle.frame.specs.Frames.{header, frame_of, HasHeader}
use Rattle.events.specs.declared.event.Stream.{Stream}
use Rattle.events.specs.declared.event.Event.{Event}
use Rattle.events.specs.declared.event.Event.TheVariants.{Arrive, Carry}
use Rattle.net_side.specs.NetView.{NetView}
use Rattle.net_side.specs.Nets as net_side
use Rattle.net_side.specs.Nets.{IsInbound, IsFrameAt}
use Rattle.net_side.specs.declared.inbound.Inbound.{Inbound}
use Rattle.net_side.specs.declared.inbound.Inbound.TheVariants.{Foreign, NotMine, Ours}
use Rattle.unit_core.specs.Hearing.{AreInbound}
use Rattle.machine.specs.Setup.{Setup}
use Rattle.machine.specs.Machine.{state}
use Rattle.machine.specs.FalseBytes.{IsSentFrame}
use Rattle.engine.specs.Handed.{message_sent}
use Rattle.engine.specs.Turns.{partition_number}
use Rattle.engine.specs.States.{NetIs}
use Rattle.engine.specs.inside.Facts.{Laws, Fits}
use Rattle.engine.specs.inside.Events.{AreSomething}
use Rattle.engine.proofs.Cases.{bool_cases}
use Rattle.engine.proofs.Inbounds.{its_piece}
use Rattle.engine.proofs.Lookups.{found_sent}

-- bytes are something to a unit
abbrev IsSomething : Sealer → NetView → List ℕ → Type 0
IsSomething sealed net bytes = (w : Inbound) × IsInbound sealed net bytes w

-- a frame of another partition is foreign
frame_foreign : (sealed : Sealer) (keys : KeyPair) (x : PieceView) (p : ℕ) → x.partition ≢ p
    → ¬ HasHeader p (frame_of sealed keys x)
unfolding frame_of header
frame_foreign sealed keys x p differ = λ same. differ (ap (λ bytes. slice_index bytes 3) same)

frame_here : (sealed : Sealer) (net : NetView) (bytes : List ℕ) (x : PieceView)
    → IsFrameAt sealed net bytes x
    → (net_side.is_for net x ≡ true) ⊎ (net_side.is_for net x ≡ false) → IsSomething sealed net bytes
frame_here sealed net bytes x f (inl own) = (Ours x, (f, own))
frame_here sealed net bytes x f (inr other) = (NotMine, (x, f, other))

sent_something : Laws → (m : Setup) (past : List Event) (net : NetView) (s r u : Party) (j i : ℕ)
    (bytes : List ℕ) → Fits m past → NetIs m u net → IsSentFrame m (state m past) s r j i bytes
    → IsSomething m.sealed net bytes
sent_something laws m past net s r u j i bytes fits is f = by (number_cases (partition_number m s) net.partition)
  where
    number_cases : (a b : ℕ) → (a ≡ b) ⊎ (a ≢ b)
    number_cases a b = elim (bool_cases (a == b)) [
      | inl one ↦ inl (let e : a ≡ b = grind (arith, nat_tests, one) in e)
      | inr two ↦ inr (λ e. let f : ⊥ = grind (arith, nat_tests, two, e) in f)
    ]

    by : (partition_number m s ≡ net.partition) ⊎ (partition_number m s ≢ net.partition)
        → IsSomething m.sealed net bytes
    by (inl own) =
        let x = its_piece m s r j f.body i in
        frame_here m.sealed net bytes x (record {
          piece = laws.sent_piece m past s r j i f.body fits.roster fits.small f.sent f.piece;
          own = own;
          same = f.same ∙ ap (λ k. frame_of m.sealed k x)
              (ap m.keys (own ∙ is.partition) ∙ sym is.keys);
        }) (bool_cases (net_side.is_for net x))
    by (inr other) =
        let x = its_piece m s r j f.body i in (
          Foreign,
          subst (λ frame. ¬ HasHeader net.partition frame) (sym f.same)
              (frame_foreign m.sealed (m.keys (partition_number m s)) x net.partition other),
        )

each_something : (sealed : Sealer) (net : NetView) (frames : List (List ℕ))
    → ((i : ℕ) (bytes : List ℕ) → slice_get frames i ≡ Some bytes → IsSomething sealed net bytes)
    → (ws : List Inbound) × AreInbound sealed net frames ws
each_something sealed net [] each = ([], tt)
each_something sealed net (frame ∷ frames) each =
    let first = each 0 frame refl in
    let rest = each_something sealed net frames (λ i bytes there. each (suc i) bytes there) in
    (first.0 ∷ rest.0, (first.1, rest.1))

one_something : (sealed : Sealer) (net : NetView) (o : Option (List ℕ))
    → ((bytes : List ℕ) → o ≡ Some bytes → IsSomething sealed net bytes)
    → (ws : List Inbound) × AreInbound sealed net (option_to_list o) ws
one_something sealed net None each = ([], tt)
one_something sealed net (Some bytes) each = let w = each bytes refl in (w.0 ∷ [], (w.1, tt))

-- so are the frames of a message that was sent
pub carried_something : Laws → (m : Setup) (past : List Event) (stream : Stream) (j : ℕ) (at : Party)
    → Fits m past → AreSomething m past (Carry stream j at)
carried_something laws m past stream j at fits =
    λ u net is known. each_something m.sealed net (message_sent m (state m past) stream j)
    (λ i bytes there. sent_something laws m past net stream.from stream.to u j i bytes fits is
    (found_sent m (state m past) stream.from stream.to j i bytes
    (slice_get ((state m past).sent stream.from stream.to) j) refl there))

-- and that of one piece
pub arrived_something : Laws → (m : Setup) (past : List Event) (stream : Stream) (j i : ℕ)
    (at : Party) → Fits m past → AreSomething m past (Arrive stream j i at)
arrived_something laws m past stream j i at fits =
    λ u net is known. one_something m.sealed net
    (slice_get (message_sent m (state m past) stream j) i)
    (λ bytes there. sent_something laws m past net stream.from stream.to u j i bytes fits is
    (found_sent m (state m past) stream.from stream.to j i bytes
    (slice_get ((state m past).sent stream.from stream.to) j) refl there))
