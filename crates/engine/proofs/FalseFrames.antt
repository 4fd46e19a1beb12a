-- Whether bytes that the network makes are a false frame.
use Rattle.std.proofs.Common.{◌≡◌, ◌≢◌, ℕ, List, [], ◌∷◌, Bool, true, false, Option, Some, None, refl, sym, ap, ap₂, subst, ◌∙◌, ◌⊎◌, inl, inr}
use Rattle.std.specs.Prelude.{slice_get, drop, not}
use Rattle.levels.specs.declared.level.Party.{Party}
use Rattle.levels.specs.declared.level.Partition.{Partition}
use Rattle.levels.specs.Rosters.{RosterView, partition_of, is_same_party, is_one_partition, is_same_partition, is_partner}
use Rattle.seal_core.specs.declared.KeyPair.{KeyPair}
use Rattle.frame.specs.Pieces.{PieceView}
use Rattle.frame.specs.Frames.{HasHeader, Opens, IsFrame, frame_of}
use Rattle.events.specs.declared.event.Event.{Event}
use Rattle.net_side.specs.NetView.{NetView}
use Rattle.net_side.specs.Nets as net_side
use Rattle.net_side.specs.Nets.{has_opened}
use Rattle.net_side.specs.declared.inbound.Inbound.{Inbound}
use Rattle.net_side.specs.declared.inbound.Inbound.TheVariants.{NotMine, Ours}
use Rattle.unit_core.specs.Hearing.{AreInbound}
use Rattle.machine.specs.Setup.{Setup}
use Rattle.machine.specs.Machine.{address_of, number_of, state}
use Rattle.desk.specs.Deeds.{party_at}
use Rattle.engine.specs.Handed.{message_sent}
use Rattle.machine.specs.FalseBytes.{OpensIn, IsSentFrame, IsFalseFrame}
use Rattle.engine.specs.Turns.{partition_number}
use Rattle.engine.specs.States.{NetIs}
use Rattle.engine.proofs.Cases.{bool_cases, same_number, yes, all_two}
use Rattle.engine.proofs.Peers.{party_back}
use Rattle.engine.proofs.Lookups.{sent_found}
use Rattle.engine.specs.inside.Facts.{Laws, Fits}
use Rattle.engine.proofs.Inbounds.{its_piece}
use Rattle.engine.specs.inside.Events.{AllShut, IsShut}

-- bytes that don't open change nothing at the unit
pub shut_frames : Laws → (m : Setup) (u : Party) (net : NetView) (bytes : List ℕ) (ws : List Inbound)
    → NetIs m u net → IsShut m u bytes → AreInbound m.sealed net (bytes ∷ []) ws → AllShut ws
shut_frames laws m u net bytes [] is shut are = tt
shut_frames laws m u net bytes (w ∷ []) is shut are = (closed (has_opened w) refl, tt)
  where
    closed : (b : Bool) → has_opened w ≡ b → b ≡ false
    closed false at = refl
    closed true at =
        let t = laws.opens m.sealed net bytes w are.0 at in
        absurd (shut (record {
          header = subst (λ p. HasHeader p bytes) is.partition t.0;
          opens = subst (λ k. Opens m.sealed k (drop 8 bytes)) is.keys t.1;
        }))
shut_frames laws m u net bytes (w ∷ v ∷ ws) is shut are = absurd are.1

-- a unit that has nobody for a partner
abbrev alone : ℕ → KeyPair → NetView
alone p keys = record { address = 0; partition = p; keys = keys; partners = [] }

-- the frame of a piece opens
pub frame_opens : Laws → (m : Setup) (p : ℕ) (bytes : List ℕ) (x : PieceView)
    → IsFrame m.sealed (m.keys p) p bytes x → OpensIn m p bytes
frame_opens laws m p bytes x f = by (bool_cases (net_side.is_for net x))
  where
    net : NetView
    net = alone p (m.keys p)

    by : (net_side.is_for net x ≡ true) ⊎ (net_side.is_for net x ≡ false) → OpensIn m p bytes
    by (inl own) =
        let t = laws.opens m.sealed (alone p (m.keys p)) bytes (Ours x) (f, own) refl in
        record { header = t.0; opens = t.1 }
    by (inr other) =
        let t = laws.opens m.sealed (alone p (m.keys p)) bytes NotMine (x, f, other) refl in
        record { header = t.0; opens = t.1 }

-- a frame that was sent in the partition of u is the frame of its piece
pub sent_is_frame : Laws → (m : Setup) (past : List Event) (s r u : Party) (j i : ℕ) (bytes : List ℕ)
    → Fits m past → is_same_partition m.roster s u ≡ true
    → (f : IsSentFrame m (state m past) s r j i bytes)
    → IsFrame m.sealed (m.keys (partition_number m u)) (partition_number m u) bytes
    (its_piece m s r j f.body i)
sent_is_frame laws m past s r u j i bytes fits same f =
    let number : partition_number m s ≡ partition_number m u =
    one_number (partition_of m.roster s) (partition_of m.roster u) same in
    record {
      piece = laws.sent_piece m past s r j i f.body fits.roster fits.small f.sent f.piece;
      own = number;
      same = f.same
          ∙ ap (λ k. frame_of m.sealed k (its_piece m s r j f.body i)) (ap m.keys number);
    }
  where
    one_number : (o o' : Option Partition) → is_one_partition o o' ≡ true
        → number_of o ≡ number_of o'
    one_number (Some p) (Some q) h = same_number p.0 q.0 h
    one_number None q h = cc
    one_number (Some p) None h = cc

-- bytes that open to no piece were never sent
pub malformed_is_false : Laws → (m : Setup) (past : List Event) (u : Party) (bytes : List ℕ)
    → Fits m past → OpensIn m (partition_number m u) bytes
    → ((x : PieceView) → ¬ IsFrame m.sealed (m.keys (partition_number m u)) (partition_number m u) bytes x)
    → IsFalseFrame m (state m past) u bytes
malformed_is_false laws m past u bytes fits opens none = record {
  opens = opens;
  never_sent = λ s r j i same f. none (its_piece m s r j f.body i)
      (sent_is_frame laws m past s r u j i bytes fits same f);
}

-- a partner of a party that is in the partition of u is in it too
partner_there : (roster : RosterView) (s r u : Party) → is_partner roster s r ≡ true
    → is_same_partition roster s u ≡ true → is_same_partition roster r u ≡ true
partner_there roster s r u partners same =
    one (partition_of roster s) (partition_of roster r) (partition_of roster u)
    (all_two (not (is_same_party s r)) (is_same_partition roster s r) partners).1 same
  where
    one : (o o' o'' : Option Partition) → is_one_partition o o' ≡ true
        → is_one_partition o o'' ≡ true → is_one_partition o' o'' ≡ true
    one (Some p) (Some q) (Some t) h g =
        yes q.0 t.0 (sym (same_number p.0 q.0 h) ∙ same_number p.0 t.0 g)
    one None o' o'' h g = cc
    one (Some p) None o'' h g = cc
    one (Some p) (Some q) None h g = cc

-- bytes that open to a piece were sent where what they name is these bytes, and never else; nothing
-- is sent to another partition
pub opened_is_false : Laws → (m : Setup) (past : List Event) (u : Party) (bytes : List ℕ)
    (x : PieceView) → Fits m past
    → IsFrame m.sealed (m.keys (partition_number m u)) (partition_number m u) bytes x
    → ((y : PieceView) → IsFrame m.sealed (m.keys (partition_number m u)) (partition_number m u) bytes y
    → y ≡ x)
    → (is_same_partition m.roster (party_at (partition_number m u) x.from) u ≡ true
    → is_same_partition m.roster (party_at (partition_number m u) x.to) u ≡ true
    → slice_get (message_sent m (state m past) (record {
      from = party_at (partition_number m u) x.from;
      to = party_at (partition_number m u) x.to;
    }) x.message) x.piece ≢ Some bytes)
    → IsFalseFrame m (state m past) u bytes
opened_is_false laws m past u bytes x fits f only missing = record {
  opens = frame_opens laws m (partition_number m u) bytes x f;
  never_sent = λ s r j i same g. (
      let y = its_piece m s r j g.body i in
      let number = (sent_is_frame laws m past s r u j i bytes fits same g).own in
      let one : y ≡ x = only y (sent_is_frame laws m past s r u j i bytes fits same g) in
      let partners = laws.partner m past s r j g.body g.sent in
      let known = laws.both_known m.roster s r partners in
      let from : party_at (partition_number m u) x.from ≡ s =
      ap (λ (z : PieceView). party_at (partition_number m u) z.from) (sym one)
      ∙ ap (λ n. party_at n (address_of s)) (sym number) ∙ party_back laws m.roster s fits.roster known.0 in
      let to : party_at (partition_number m u) x.to ≡ r =
      ap (λ (z : PieceView). party_at (partition_number m u) z.to) (sym one)
      ∙ ap (λ n. party_at n (address_of r))
      (sym number ∙ laws.one_partition m.roster s r partners)
      ∙ party_back laws m.roster r fits.roster known.1 in
      let message : x.message ≡ j = ap (λ (z : PieceView). z.message) (sym one) in
      let piece : x.piece ≡ i = ap (λ (z : PieceView). z.piece) (sym one) in
      missing (ap (λ v. is_same_partition m.roster v u) from ∙ same)
      (ap (λ v. is_same_partition m.roster v u) to ∙ partner_there m.roster s r u partners same)
      (ap₂ (λ (a b : Party). slice_get (message_sent m (state m past)
      (record { from = a; to = b }) x.message) x.piece) from to
      ∙ ap₂ (λ (k l : ℕ). slice_get (message_sent m (state m past)
      (record { from = s; to = r }) k) l) message piece
      ∙ sent_found m (state m past) s r j i bytes g));
}
