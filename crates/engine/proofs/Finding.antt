-- The frames of a message are found at the desk of its sender.
use Rattle.std.proofs.Common.{◌≡◌, ℕ, ◌≤◌, List, [], length, take, true, false, Option, Some, None, refl, sym, ap, subst, ◌∙◌, ◌⊎◌, inl, inr, arith}
use Rattle.std.specs.Prelude.{slice_get}
use Rattle.std.proofs.lemmas.List.{take_all}
use Rattle.std.proofs.lemmas.List.FromFn.{length-map-range_with_len}
use Rattle.levels.specs.declared.level.Party.{Party}
use Rattle.levels.specs.Rosters.{is_partner}
use Rattle.seal_core.specs.Sealing.{Sealer}
use Rattle.frame.specs.Pieces.{pieces}
use Rattle.events.specs.declared.event.Stream.{Stream}
use Rattle.events.specs.declared.event.Event.{Event}
use Rattle.events.specs.Scripts.{is_known}
use Rattle.machine.specs.Setup.{Setup}
use Rattle.machine.specs.Machine.{piece_frame, state}
use Rattle.desk.specs.Batches.{Batches}
use Rattle.desk.specs.Views.{DeskView}
use Rattle.desk.specs.Wires.{message_frames}
use Rattle.desk.specs.Deeds.{DeskState, address_in}
use Rattle.desk.specs.Desks.{At}
use Rattle.engine.specs.Handed.{frames_if, message_sent}
use Rattle.engine.specs.Turns.{partition_number}
use Rattle.engine.specs.States.{Stands, frames_by}
use Rattle.engine.specs.inside.Facts.{Laws, Fits}
use Rattle.engine.specs.inside.Standing.{SlotAt, SlotSilent, DeskAt}
use Rattle.machine.specs.Wire.{wire}
use Rattle.engine.proofs.Bounds.{few_pieces}
use Rattle.engine.proofs.Cases.{bool_cases, not_both}
use Rattle.engine.proofs.Lookups.{nothing_there, wire_reads, found_for}
use Rattle.engine.proofs.Peers.{address_below}

-- a message that was sent has 64 frames at most
frames_few : (m : Setup) (past : List Event) (s r : Party) (j : ℕ) (o : Option (List ℕ)) → Fits m past
    → slice_get ((state m past).sent s r) j ≡ o → length (frames_if m s r j o) ≤ 64
frames_few m past s r j None fits is = omega arith
frames_few m past s r j (Some body) fits is =
    omega (
      arith,
      few_pieces body (fits.small s r j body is).short,
      length-map-range_with_len (piece_frame m s r j body) 0 (pieces body),
    )

-- the frames of a message are at most 64
pub message_few : (m : Setup) (past : List Event) (stream : Stream) (j : ℕ) → Fits m past
    → length (message_sent m (state m past) stream j) ≤ 64
message_few m past stream j fits =
    frames_few m past stream.from stream.to j
    (slice_get ((state m past).sent stream.from stream.to) j) fits refl

-- a party that the roster hasn't sent nothing
unknown_sends_none : Laws → (m : Setup) (past : List Event) (stream : Stream) (j : ℕ)
    → is_known m.roster stream.from ≡ false → message_sent m (state m past) stream j ≡ []
unknown_sends_none laws m past stream j unknown =
    ap (frames_if m stream.from stream.to j)
    (nothing_there laws m past stream.from stream.to j
    (none (bool_cases (is_partner m.roster stream.from stream.to))))
  where
    none : (is_partner m.roster stream.from stream.to ≡ true) ⊎ (is_partner m.roster stream.from stream.to ≡ false)
        → is_partner m.roster stream.from stream.to ≡ false
    none (inl partner) = absurd (not_both (is_known m.roster stream.from)
        (laws.both_known m.roster stream.from stream.to partner).0 unknown)
    none (inr off) = off

-- what a desk gives as the frames of its messages, once its batch has no send
abbrev pub GivesFrames : Sealer → DeskView → Party → ℕ → List (List ℕ) → Type 0
GivesFrames sealed desk to j frames = (st : DeskState) (b : Batches) → desk.batch.sends ≡ []
    → At sealed desk st b → frames ≡ message_frames st.wire (address_in st.partition to) j

-- the desk of a sender gives the frames of its message
frames_found : Laws → (m : Setup) (past : List Event) (stream : Stream) (j : ℕ) (b : Batches)
    (desk : DeskView) (frames : List (List ℕ)) → Fits m past → is_known m.roster stream.to ≡ true
    → DeskAt m stream.from b (Stands m past (state m past) stream.from) desk
    → desk.batch.sends ≡ [] → GivesFrames m.sealed desk stream.to j frames
    → frames ≡ message_sent m (state m past) stream j
frames_found laws m past stream j b desk frames fits known at silent gives =
    let u = stream.from in
    let to = stream.to in
    let a = address_in (partition_number m u) to in
    gives at.st b silent at.at
    ∙ ap (λ p. message_frames at.st.wire (address_in p to) j) at.is.partition
    ∙ wire_reads laws m past (frames_by u (wire m past)) u at.st.wire a j
    (address_below laws m u to fits.roster known) at.is.wires
    ∙ found_for laws m past u to j fits.roster known

-- of at most 64 frames the first 64 are all
pub first_frames : (frames all : List (List ℕ)) (n : ℕ) → frames ≡ all → length all ≤ 64
    → (length frames ≤ 64 → n ≡ length frames) → take n frames ≡ all
first_frames frames all n same few count =
    let le : length frames ≤ 64 = omega (arith, ap length same, few) in
    take_all n frames (omega (arith, count le)) ∙ same

-- what a slot gives as the frames of a message
pub found_in_slot : Laws → (sealed : Sealer) (stream : Stream) (j n : ℕ) (slot : Option DeskView)
    (desk : DeskView) (frames : List (List ℕ)) → Some desk ≡ slot
    → GivesFrames sealed desk stream.to j frames → (length frames ≤ 64 → n ≡ length frames)
    → (m : Setup) (past : List Event) (b : Batches) → m.sealed ≡ sealed → Fits m past
    → is_known m.roster stream.to ≡ true
    → SlotAt m stream.from b (Stands m past (state m past) stream.from) slot → SlotSilent slot
    → take n frames ≡ message_sent m (state m past) stream j
found_in_slot laws sealed stream j n slot desk frames own gives count m past b same fits known at silent =
    first_frames frames (message_sent m (state m past) stream j) n
    (frames_found laws m past stream j b desk frames fits known
    (subst (SlotAt m stream.from b (Stands m past (state m past) stream.from)) (sym own) at)
    (subst SlotSilent (sym own) silent)
    (subst (λ s. GivesFrames s desk stream.to j frames) (sym same) gives))
    (message_few m past stream j fits) count

-- where no desk is, nothing was sent
pub found_in_none : Laws → (sealed : Sealer) (stream : Stream) (j : ℕ) (slot : Option DeskView)
    (frames : List (List ℕ)) → slot ≡ None → frames ≡ []
    → (m : Setup) (past : List Event) (b : Batches) → m.sealed ≡ sealed → Fits m past
    → is_known m.roster stream.to ≡ true
    → SlotAt m stream.from b (Stands m past (state m past) stream.from) slot → SlotSilent slot
    → frames ≡ message_sent m (state m past) stream j
found_in_none laws sealed stream j slot frames none empty m past b same fits known at silent =
    empty ∙ sym (unknown_sends_none laws m past stream j
    (subst (SlotAt m stream.from b (Stands m past (state m past) stream.from)) none at))
