-- Bytes that the network makes: what they open to, and whether they were sent.
use Rattle.std.proofs.Common.{◌≡◌, ◌≢◌, ℕ, ◌<◌, List, [], ◌∷◌, Bool, true, false, Option, Some, None, refl, sym, ap, ap₂, subst, ◌∙◌, ◌⊎◌, inl, inr}
use Rattle.std.specs.Prelude.{length, not, is_some, slice_get, slice_index_or, IsTrue, ◌↔◌}
use Rattle.std.proofs.lemmas.Option.{same_Some, slice_get_read}
use Rattle.levels.specs.declared.level.Party.{Party}
use Rattle.levels.specs.declared.level.Partition.{Partition}
use Rattle.levels.specs.Rosters.{RosterView, partition_of, is_one_partition, is_same_partition}
use Rattle.seal_core.specs.Sealing.{Sealer}
use Rattle.frame.specs.Pieces.{PieceView}
use Rattle.frame.specs.declared.sealed.Opening.{Opening}
use Rattle.frame.specs.declared.sealed.Opening.TheVariants.{Foreign, Closed, Malformed, Opened}
use Rattle.events.specs.declared.event.Event.{Event}
use Rattle.events.specs.declared.event.Stream.{Stream}
use Rattle.events.specs.Scripts.{is_known}
use Rattle.machine.specs.Setup.{Setup}
use Rattle.machine.specs.Machine.{State, number_of, state}
use Rattle.machine.specs.FalseBytes.{OpensIn}
use Rattle.desk.specs.Batches.{Batches, flush}
use Rattle.desk.specs.Deeds.{party_at}
use Rattle.desk.specs.Views.{BatchView, DeskView}
use Rattle.engine.specs.Handed.{message_sent}
use Rattle.engine.specs.Slots.{slot_of, HasSlot}
use Rattle.engine.specs.States.{Stands}
use Rattle.engine.specs.Turns.{partition_number, batches}
use Rattle.engine.specs.inside.Facts.{Laws, Fits}
use Rattle.engine.specs.inside.Events.{IsShut}
use Rattle.engine.specs.inside.Judging.{IsFrameAt, OpensAs, OpensWhere, FirstOpens, WasSentThere, IsJudged}
use Rattle.engine.specs.inside.Standing.{desk_at, SlotAt, SlotSilent, SlotOpen, SetupOf, Flushed}
use Rattle.engine.proofs.Cases.{nat_cases, yes, no, not_both}
use Rattle.engine.proofs.FalseFrames.{frame_opens, opened_is_false}
use Rattle.engine.proofs.Lookups.{found_sent}

-- ---- what bytes open to

-- bytes with another header, or whose sealed part doesn't open, are shut
pub opens_shut : (m : Setup) (u : Party) (bytes : List ℕ) (r : Opening)
    → (r ≡ Foreign) ⊎ (r ≡ Closed) → OpensAs m u bytes r → IsShut m u bytes
opens_shut m u bytes r (inl is) opens = subst (OpensAs m u bytes) is opens
opens_shut m u bytes r (inr is) opens = subst (OpensAs m u bytes) is opens

-- bytes that open to no piece, or to one, open
pub opens_to : Laws → (m : Setup) (u : Party) (bytes : List ℕ) (r : Opening)
    → (r ≡ Malformed) ⊎ ((x : PieceView) × (r ≡ Opened x)) → OpensAs m u bytes r
    → OpensIn m (partition_number m u) bytes
opens_to laws m u bytes r (inl is) opens = (subst (OpensAs m u bytes) is opens).0
opens_to laws m u bytes r (inr is) opens =
    let f = subst (OpensAs m u bytes) is.1 opens in
    frame_opens laws m (partition_number m u) bytes is.0 f.0

-- whether the first of some frames opens
pub first_opens : (m : Setup) (u : Party) (frames : List (List ℕ)) (bytes : List ℕ) (b : Bool)
    → slice_get frames 0 ≡ Some bytes → OpensWhere m u bytes b → FirstOpens m u frames b
first_opens m u [] bytes b is opens = cc
first_opens m u (frame ∷ frames) bytes b is opens =
    subst (λ y. OpensWhere m u y b) (sym (same_Some frame bytes is)) opens

-- ---- what is found once all batches are flushed

silent_if_open : (slot : Option DeskView) → SlotOpen slot → SlotSilent slot
silent_if_open None opened = tt
silent_if_open (Some desk) opened = ap (λ (b : BatchView). b.sends) opened

-- frames are those of a message of a stream, where its sender's sends are sealed
abbrev pub Finds : Sealer → List (Option DeskView) → Stream → ℕ → List (List ℕ) → Type 0
Finds sealed desks stream j frames = (m : Setup) (past : List Event) (b : Batches)
    → m.sealed ≡ sealed → Fits m past → is_known m.roster stream.to ≡ true
    → SlotAt m stream.from b (Stands m past (state m past) stream.from)
    (desk_at desks (slot_of stream.from))
    → SlotSilent (desk_at desks (slot_of stream.from))
    → frames ≡ message_sent m (state m past) stream j

pub found_flushed : (m : Setup) (past : List Event) (sealed : Sealer) (roster : RosterView)
    (desks : List (Option DeskView)) (stream : Stream) (j : ℕ) (frames : List (List ℕ))
    → Finds sealed desks stream j frames → SetupOf m sealed roster → Fits m past
    → is_known roster stream.to ≡ true → HasSlot stream.from → Flushed m past desks
    → frames ≡ message_sent m (state m past) stream j
found_flushed m past sealed roster desks stream j frames found setup fits known has ready =
    found m past (flush (batches m past stream.from)) setup.sealed_is fits
    (ap (λ r. is_known r stream.to) setup.roster_is ∙ known) (ready.at stream.from has)
    (silent_if_open (desk_at desks (slot_of stream.from)) (ready.opened stream.from has))

-- ---- who is at an address

-- whoever has an address has a slot
pub address_slot : (p a : ℕ) (s : Party) → p < 256 → a < 256 → s ≡ party_at p a → HasSlot s
address_slot p a s small_p small_a is = subst HasSlot (sym is) (by (nat_cases a 0))
  where
    by : (a ≡ 0) ⊎ (a ≢ 0) → HasSlot (party_at p a)
    by (inl none) = rw (yes a 0 none) small_p
    by (inr some) = rw (no a 0 some) small_a

-- a party that is in the partition of another is known
pub known_there : (roster : RosterView) (s u : Party) (same : Bool)
    → same ≡ is_same_partition roster s u → same ≡ true → is_known roster s ≡ true
known_there roster s u same is yes_same =
    some (partition_of roster s) (partition_of roster u) (sym is ∙ yes_same)
  where
    some : (o o' : Option Partition) → is_one_partition o o' ≡ true → is_some o ≡ true
    some (Some p) o' h = refl
    some None o' h = cc

-- s is at the address a in the partition of u
pub at_address : (m : Setup) (sealed : Sealer) (roster : RosterView) (u : Party)
    (found : Option Partition) (p : Partition) (s : Party) (b a : ℕ) → SetupOf m sealed roster
    → found ≡ partition_of roster u → found ≡ Some p → s ≡ party_at p.0 b → b ≡ a
    → party_at (partition_number m u) a ≡ s
at_address m sealed roster u found p s b a setup there some is same =
    ap (λ r. party_at (number_of (partition_of r u)) a) setup.roster_is
    ∙ ap (λ o. party_at (number_of o) a) (sym there ∙ some) ∙ ap (party_at p.0) (sym same) ∙ sym is

-- and is in that partition or not, as it was asked
pub same_at_address : (m : Setup) (sealed : Sealer) (roster : RosterView) (u s : Party) (a : ℕ)
    (same answer : Bool) → SetupOf m sealed roster → party_at (partition_number m u) a ≡ s
    → same ≡ is_same_partition roster s u → same ≡ answer
    → is_same_partition m.roster (party_at (partition_number m u) a) u ≡ answer
same_at_address m sealed roster u s a same answer setup here is answered =
    ap (λ r. is_same_partition r (party_at (partition_number m u) a) u) setup.roster_is
    ∙ ap (λ v. is_same_partition roster v u) here ∙ sym is ∙ answered

-- ---- whether bytes were sent

-- the stream that a piece names in the partition of u
abbrev pub its_stream : Setup → Party → PieceView → Stream
its_stream m u x = record {
  from = party_at (partition_number m u) x.from;
  to = party_at (partition_number m u) x.to;
}

pub frames_named : (m : Setup) (x : State) (u : Party) (y : PieceView) (frames : List (List ℕ))
    (s r : Party) (j : ℕ) → frames ≡ message_sent m x (record { from = s; to = r }) j
    → (its_stream m u y).from ≡ s → (its_stream m u y).to ≡ r → j ≡ y.message
    → frames ≡ message_sent m x (its_stream m u y) y.message
frames_named m x u y frames s r j are from to number =
    are ∙ ap₂ (λ (a b : Party). message_sent m x (record { from = a; to = b }) j) (sym from) (sym to)
    ∙ ap (message_sent m x (its_stream m u y)) number

pub read_there : (frames : List (List ℕ)) (i : ℕ) (frame : List ℕ) → i < length frames
    → frame ≡ slice_index_or frames i frame → slice_get frames i ≡ Some frame
read_there frames i frame lt is = slice_get_read frames (length frames) i frame refl lt is

-- bytes stand at a place where these are the bytes of the frame there
pub stand_there : (frames : List (List ℕ)) (i : ℕ) (frame bytes : List ℕ) (b : Bool)
    → slice_get frames i ≡ Some frame → (IsTrue b ↔ (frame ≡ bytes))
    → IsTrue b ↔ (slice_get frames i ≡ Some bytes)
stand_there frames i frame bytes b there same = (
  λ t. there ∙ ap Some (same.0 t),
  λ is. same.1 (same_Some frame bytes (sym there ∙ is)),
)

pub stand_nowhere : (frames : List (List ℕ)) (i : ℕ) (bytes : List ℕ) → slice_get frames i ≡ None
    → IsTrue false ↔ (slice_get frames i ≡ Some bytes)
stand_nowhere frames i bytes none = (
  λ t. absurd (not_both false t refl),
  λ is. let bad = sym none ∙ is in cc,
)

-- a frame was sent where what it names is these bytes, and is a false one else
pub sent_there : Laws → (m : Setup) (past : List Event) (u : Party) (bytes : List ℕ)
    (x : PieceView) (frames : List (List ℕ)) (sent : Bool) → Fits m past → IsFrameAt m u bytes x
    → ((y : PieceView) → IsFrameAt m u bytes y → y ≡ x)
    → is_same_partition m.roster (its_stream m u x).from u ≡ true
    → frames ≡ message_sent m (state m past) (its_stream m u x) x.message
    → (IsTrue sent ↔ (slice_get frames x.piece ≡ Some bytes)) → WasSentThere m past u bytes sent
sent_there laws m past u bytes x frames true fits f only same are held =
    let s = (its_stream m u x).from in
    let r = (its_stream m u x).to in
    let g = found_sent m (state m past) s r x.message x.piece bytes
    (slice_get ((state m past).sent s r) x.message) refl
    (ap (λ fs. slice_get fs x.piece) (sym are) ∙ held.0 refl) in (
      record { from = s; to = r; number = x.message; piece = x.piece; is = g },
      λ bad. bad.never_sent s r x.message x.piece same g,
    )
sent_there laws m past u bytes x frames false fits f only same are held =
    opened_is_false laws m past u bytes x fits f only
    (λ from to is. not_both false (held.1 (ap (λ fs. slice_get fs x.piece) are ∙ is)) refl)

-- a frame that names another partition is a false one
pub named_elsewhere : Laws → (m : Setup) (past : List Event) (u : Party) (bytes : List ℕ)
    (x : PieceView) → Fits m past → IsFrameAt m u bytes x
    → ((y : PieceView) → IsFrameAt m u bytes y → y ≡ x)
    → (is_same_partition m.roster (its_stream m u x).from u ≡ false)
    ⊎ (is_same_partition m.roster (its_stream m u x).to u ≡ false)
    → WasSentThere m past u bytes false
named_elsewhere laws m past u bytes x fits f only (inl other) =
    opened_is_false laws m past u bytes x fits f only (λ from to is.
    not_both (is_same_partition m.roster (its_stream m u x).from u) from other)
named_elsewhere laws m past u bytes x fits f only (inr other) =
    opened_is_false laws m past u bytes x fits f only (λ from to is.
    not_both (is_same_partition m.roster (its_stream m u x).to u) to other)

-- ---- whether bytes are a false frame

pub shut_judged : (m : Setup) (past : List Event) (u : Party) (bytes : List ℕ) → IsShut m u bytes
    → IsJudged m past u bytes false
shut_judged m past u bytes shut = (inr shut, λ bad. shut bad.opens)

pub sent_judged : (m : Setup) (past : List Event) (u : Party) (bytes : List ℕ) (sent : Bool)
    → WasSentThere m past u bytes sent → IsJudged m past u bytes (not sent)
sent_judged m past u bytes true was = (inl was.0, was.1)
sent_judged m past u bytes false bad = bad
