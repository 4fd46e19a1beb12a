-- What a turn has filled in the end.
use Rattle.std.proofs.Common.{◌≡◌, ℕ, zero, suc, ◌+◌, ◌≤◌, ◌<◌, List, [], ◌∷◌, ◌++◌, length, map, refl, sym, ap, ap₂, subst, ◌∙◌, arith, zero-add, append-nil, length-append, All}
use Rattle.std.specs.Prelude.{vec_capacity}
use Rattle.std.proofs.Math.ListN.{get_or}
use Rattle.std.proofs.lemmas.List.{length-map}
use Rattle.seal_core.specs.Sealing.{Sealer}
use Rattle.frame.specs.Pieces.{PieceView}
use Rattle.frame.specs.Frames.{frame_of}
use Rattle.host_side.specs.HostView.{HostView}
use Rattle.net_side.specs.NetView.{NetView}
use Rattle.ring_link.specs.Links.{pending_towards}
use Rattle.ring_link.specs.declared.gate.Side.TheVariants.{Host, Net}
use Rattle.ring_link.specs.declared.link.Link.{Link}
use Rattle.unit_core.specs.Views.{OutgoingView, GivenMessage, TallyView, UnitView, OutView}
use Rattle.unit_core.specs.Sending.{streams_after, answers_to, pieces_sent}
use Rattle.unit_core.specs.Hearing.{kind_of, heard_after, given_from, ours_in, StandsForAll, message_in}
use Rattle.unit_core.specs.Tallies.{counted}
use Rattle.unit_core.specs.Turns.{Turned}
use Rattle.unit_core.specs.declared.rows.GivenRow.{GivenRow}
use Rattle.unit_core.specs.declared.parts.HostOut.{HostOut}
use Rattle.unit_core.specs.declared.parts.NetOut.{NetOut}
use Rattle.unit_core.specs.inside.Messages.{MessagesView, joined, row_at, rows_from, renumbered}
use Rattle.unit_core.specs.inside.Ours.{pieces_in, places_from, as_ours}
use Rattle.unit_core.specs.inside.Ends.{InOrder, SameMemory}
use Rattle.unit_core.specs.inside.Sides.{Hears, Seals}
use Rattle.unit_core.specs.inside.Units.{unit_of}
use Rattle.unit_core.specs.inside.Both.{BothTurned}
use Rattle.unit_core.proofs.Laying.{read}
use Rattle.unit_core.proofs.Sent.{same_names_both}
use Rattle.unit_core.proofs.Renumbering.{heard_ours, by_frame, count_places}
use Rattle.unit_core.proofs.Turning.{inbounds, to_seal, names_kept, hears_whole, stands_between, seals_whole}

-- the rows stand within the bytes
within_from : (start total : ℕ) (l : List GivenMessage) → start + length (joined l) ≤ total
    → (k : ℕ) (d : GivenRow) → k < length (rows_from start l)
    → (get_or (rows_from start l) k d).start + (get_or (rows_from start l) k d).length ≤ total
within_from start total [] fits k d lt = absurd (omega (arith, lt))
within_from start total (m ∷ l) fits zero d lt = omega (arith, fits, length-append m.body (joined l))
within_from start total (m ∷ l) fits (suc k) d lt =
    within_from (start + length m.body) total l (omega (arith, fits, length-append m.body (joined l))) k d
    (omega (arith, lt))

pub within : (l : List GivenMessage) → All (λ row. row.start + row.length ≤ length (joined l)) (rows_from 0 l)
within l = within_from 0 (length (joined l)) l (omega arith)

pub count_rows : (start : ℕ) (l : List GivenMessage) → length (rows_from start l) ≡ length l
count_rows start [] = refl
count_rows start (m ∷ l) = let rest = count_rows (start + length m.body) l in omega (arith, rest)

module _ {sealed : Sealer} {sends : List OutgoingView} {frames : List (List ℕ)} {old new : HostView} {net : NetView}
    {link link' : Link} {host_out host_out' : HostOut} {net_out net_out' : NetOut} {heard : ℕ}
    (both : BothTurned sealed sends frames old new net link link' host_out host_out' net_out net_out' heard)
    (last : HostView) (messages : MessagesView) (out : NetOut) (in_order : InOrder Host link')
    (out_order : InOrder Net link')
    (hears : Hears new last heard (pending_towards Host link') host_out'.messages messages)
    (seals : Seals sealed net.keys (pending_towards Net link') net_out' out) where
  by_number : Hears both.host.between last 0 (pieces_in (inbounds both)) host_out.messages messages
  by_number = hears_whole both last messages in_order hears

  all_sealed : Seals sealed net.keys (to_seal both) both.net_side.between out
  all_sealed = seals_whole both out out_order seals

  -- the messages by their frames, what was heard being this
  abbrev pub list : List GivenMessage
  list = map (renumbered out.places.items) messages.list

  places_are : out.places.items ≡ places_from 0 (inbounds both)
  places_are =
      all_sealed.places ∙ both.net_side.opens.places
      ∙ ap (λ before. before ++ places_from 0 (inbounds both)) both.no_places

  pub heard_all : (h : ℕ → List PieceView) → StandsForAll old h → StandsForAll last (heard_after h (inbounds both))
  heard_all h stands =
      subst (StandsForAll last) (heard_ours h (inbounds both)) (by_number.heard h (stands_between both h stands))

  pub given_all : (h : ℕ → List PieceView) → StandsForAll old h → list ≡ given_from h 0 (inbounds both)
  given_all h stands =
      ap₂ (λ places l. map (renumbered places) l) places_are
      (by_number.given h (stands_between both h stands)
      ∙ ap (λ before. before ++ given_from h 0 (as_ours (pieces_in (inbounds both)))) both.no_messages)
      ∙ by_frame (places_from 0 (inbounds both)) h 0 0 (inbounds both) refl

  pub sealed_all : out.sealed.items ≡ map (frame_of sealed net.keys) (to_seal both)
  sealed_all =
      all_sealed.frames
      ∙ ap (λ before. before ++ map (frame_of sealed net.keys) (to_seal both)) (both.net_side.opens.untouched
      ∙ both.no_sealed)

  pub kinds_all : out.kinds.items ≡ map kind_of (inbounds both)
  kinds_all =
      all_sealed.kinds ∙ both.net_side.opens.kinds
      ∙ ap (λ before. before ++ map kind_of (inbounds both)) both.no_kinds

  pub ours_all : length out.places.items ≡ ours_in (inbounds both)
  ours_all = ap length places_are ∙ count_places 0 (inbounds both)

  room_still : (end : Link) → SameMemory link' end
      → end.host.capacity ∷ end.net.capacity ∷ last.room ≡ link.host.capacity ∷ link.net.capacity ∷ old.room
  room_still end memory =
      let host : end.host.capacity ≡ link.host.capacity =
      memory.host ∙ both.host.hears_some.same.capacity ∙ both.host.sends_all.same.capacity in
      let network : end.net.capacity ≡ link.net.capacity =
      memory.net ∙ both.net_side.seals_some.same.capacity ∙ both.net_side.opens.same.capacity in
      let side : last.room ≡ old.room =
      hears.room ∙ both.host.hears_some.hears.room ∙ both.host.sends_all.room in
      ap₂ (λ a b. a ∷ b ∷ last.room) host network ∙ ap (λ room. link.host.capacity ∷ link.net.capacity ∷ room) side

  pub turned : (end : Link) (tally tally' : TallyView) (filled : OutView) → SameMemory link' end
      → filled.answers ≡ host_out'.answers.items → filled.kinds ≡ out.kinds.items → filled.sealed ≡ out.sealed.items
      → filled.given ≡ rows_from 0 list → filled.bodies ≡ joined list
      → tally' ≡ counted tally (length out.sealed.items) (length out.places.items) (length messages.list)
      → Turned sealed (unit_of old net link tally) sends frames (unit_of last net end tally') filled
  turned end tally tally' filled memory answers kinds sealed_are given bodies counts = record {
    names = same_names_both old new last (names_kept both) hears.names;
    net = refl;
    streams = hears.streams ∙ both.host.hears_some.hears.streams ∙ both.host.sends_all.streams;
    answers =
        answers ∙ both.host.answers ∙ ap (λ before. before ++ answers_to old.streams sends) both.no_answers;
    wire = sealed_are ∙ sealed_all;
    inbounds = inbounds both;
    each = both.net_side.opens.each;
    kinds = kinds ∙ kinds_all;
    heard = heard_all;
    given = λ h stands. read filled.given filled.bodies list given bodies ∙ given_all h stands;
    bodies = bodies ∙ ap joined (sym (read filled.given filled.bodies list given bodies));
    within = rw (bodies, given) (within list);
    tally =
        counts
        ∙ ap₂ (λ s o. counted tally s o (length messages.list)) (ap length (sym sealed_are)) ours_all
        ∙ ap (counted tally (length filled.sealed) (ours_in (inbounds both)))
        (sym (ap length given ∙ count_rows 0 list ∙ length-map messages.list (renumbered out.places.items)));
    room = room_still end memory;
  }
