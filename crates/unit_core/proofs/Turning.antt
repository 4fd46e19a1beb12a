-- A whole turn, of what each side did and what was on its way.
use Rattle.std.proofs.Common.{◌≡◌, ℕ, zero, suc, ◌+◌, ◌*◌, ◌-◌, ◌≤◌, ◌<◌, List, [], ◌∷◌, ◌++◌, length, drop, map, true, refl, sym, ap, ap₂, subst, ◌∙◌, arith, zero-add, append-nil, append_assoc, length-append, All}
use Rattle.std.proofs.Math.ListN.{get_or}
use Rattle.std.proofs.lemmas.List.{map-append, append_cancel_left, length-map}
use Rattle.seal_core.specs.declared.KeyPair.{KeyPair}
use Rattle.seal_core.specs.Sealing.{Sealer}
use Rattle.frame.specs.Pieces.{PieceView}
use Rattle.frame.specs.Frames.{frame_of}
use Rattle.window.specs.WindowView.{WindowView}
use Rattle.window.specs.Windows as windows
use Rattle.host_side.specs.HostView.{HostView}
use Rattle.host_side.specs.Hosts.{SameNames}
use Rattle.net_side.specs.NetView.{NetView}
use Rattle.net_side.specs.declared.inbound.Inbound.{Inbound}
use Rattle.ring_link.specs.Ends.{received_by, taken_by, spare}
use Rattle.ring_link.specs.Links.{end_towards, received_at, taken_towards, sent_towards, backlog_towards, pending_towards, IsSettled, SameTowards}
use Rattle.ring_link.specs.declared.gate.Side.{Side}
use Rattle.ring_link.specs.declared.gate.Side.TheVariants.{Host, Net}
use Rattle.ring_link.specs.declared.link.Link.{Link}
use Rattle.unit_core.specs.Views.{OutgoingView, GivenMessage}
use Rattle.unit_core.specs.Sending.{pieces_sent}
use Rattle.unit_core.specs.Hearing.{AreInbound, StandsForAll}
use Rattle.unit_core.specs.declared.rows.GivenRow.{GivenRow}
use Rattle.unit_core.specs.declared.parts.HostOut.{HostOut}
use Rattle.unit_core.specs.declared.parts.NetOut.{NetOut}
use Rattle.unit_core.specs.inside.Messages.{MessagesView, joined, rows_from}
use Rattle.unit_core.specs.inside.Ours.{pieces_in, mine, AreMine}
use Rattle.unit_core.specs.inside.Ends.{InOrder}
use Rattle.unit_core.specs.inside.Sides.{Hears, Seals}
use Rattle.unit_core.specs.inside.Units.{IsAtRest}
use Rattle.unit_core.specs.inside.Both.{BothTurned}
use Rattle.unit_core.proofs.Sent.{same_names_both, few_sent}
use Rattle.unit_core.proofs.Hearings.{hears_both}
use Rattle.unit_core.proofs.Openings.{as_many, seals_both}
use Rattle.unit_core.proofs.Renumbering.{few_ours, AllFor, all_for, all_for_front, all_for_back, all_for_still, all_mine}

-- ---- a link at rest

-- each end has room for 256 pieces
pub spare_whole : (side : Side) (link : Link) → IsAtRest link → 256 ≤ spare (end_towards side link)
spare_whole Host link rest = omega (arith, rest.net_room, ap length rest.to_host.backlog)
spare_whole Net link rest = omega (arith, rest.host_room, ap length rest.to_net.backlog)

all_came : (received sent backlog came pending offered now taken : List PieceView) → received ≡ sent → backlog ≡ []
    → taken ≡ (sent ++ backlog) ++ offered → now ≡ received ++ came → now ++ pending ≡ taken
    → came ++ pending ≡ offered
all_came received sent backlog came pending offered now taken settled empty offers comes order =
    let start : taken ≡ sent ++ offered =
    offers ∙ ap (λ xs. (sent ++ xs) ++ offered) empty ∙ ap (λ xs. xs ++ offered) (append-nil sent) in
    append_cancel_left sent (came ++ pending) offered
    (sym (append_assoc sent came pending) ∙ ap (λ xs. (xs ++ came) ++ pending) (sym settled)
    ∙ ap (λ xs. xs ++ pending) (sym comes) ∙ order ∙ start)

-- what came and what is on its way are what was offered, since nothing was on its way before
pub came_and_comes : (side : Side) (old now : Link) (came offered : List PieceView) → IsSettled side old
    → taken_towards side now ≡ taken_towards side old ++ offered → received_at side now ≡ received_at side old ++ came
    → InOrder side now → came ++ pending_towards side now ≡ offered
came_and_comes side old now came offered settled offers comes order =
    all_came (received_at side old) (sent_towards side old) (backlog_towards side old) came (pending_towards side now)
    offered (received_at side now) (taken_towards side now) settled.received settled.backlog offers comes order

-- ---- both sides after the join

module _ {sealed : Sealer} {sends : List OutgoingView} {frames : List (List ℕ)} {old new : HostView} {net : NetView}
    {link link' : Link} {host_out host_out' : HostOut} {net_out net_out' : NetOut} {heard : ℕ}
    (both : BothTurned sealed sends frames old new net link link' host_out host_out' net_out net_out' heard) where
  abbrev pub inbounds : List Inbound
  inbounds = both.net_side.opens.inbounds

  abbrev pub came : List PieceView
  came = both.host.hears_some.came

  abbrev pub came_out : List PieceView
  came_out = both.net_side.seals_some.came

  abbrev pub to_seal : List PieceView
  to_seal = pieces_sent old.address old.partition old.streams sends

  pub names_kept : SameNames old new
  names_kept =
      same_names_both old both.host.between new both.host.sends_all.names both.host.hears_some.hears.names

  -- what came to the host's side and what is on its way are the pieces of the unit's frames
  pub comes_in : InOrder Host link' → came ++ pending_towards Host link' ≡ pieces_in inbounds
  comes_in order =
      came_and_comes Host link link' came (pieces_in inbounds) both.rest.to_host
      (both.net_side.seals_some.taken ∙ both.net_side.opens.taken)
      (both.host.hears_some.received ∙ ap (λ xs. xs ++ came) both.host.sends_all.received) order

  pub own : AllFor old (pieces_in inbounds)
  own = all_for sealed old net frames inbounds both.unit both.net_side.opens.each

  own_came : InOrder Host link' → AllFor both.host.between came
  own_came order =
      all_for_still old both.host.between came both.host.sends_all.names
      (all_for_front old came (pending_towards Host link') (subst (AllFor old) (sym (comes_in order)) own))

  pub all_heard : InOrder Host link' → mine both.host.between came ≡ came
  all_heard order = all_mine both.host.between came (own_came order)

  pub mine_comes : InOrder Host link' → AreMine new heard (pending_towards Host link')
  mine_comes order = record {
    all = all_for_still old new (pending_towards Host link') names_kept
        (all_for_back old came (pending_towards Host link') (subst (AllFor old) (sym (comes_in order)) own));
    few = omega (
      arith,
      both.host.hears_some.count,
      ap length (all_heard order),
      length-append came (pending_towards Host link'),
      ap length (comes_in order),
      few_ours inbounds,
      as_many sealed net frames inbounds both.net_side.opens.each,
      both.few_frames,
    );
  }

  -- and the same towards the network
  pub comes_out : InOrder Net link' → came_out ++ pending_towards Net link' ≡ to_seal
  comes_out order =
      came_and_comes Net link link' came_out to_seal both.rest.to_net
      (both.host.hears_some.taken ∙ both.host.sends_all.taken)
      (both.net_side.seals_some.received ∙ ap (λ xs. xs ++ came_out) both.net_side.opens.received) order

  pub few_seals : InOrder Net link' → length net_out'.sealed.items + length (pending_towards Net link') ≤ 256
  few_seals order =
      omega (
        arith,
        ap length both.net_side.seals_some.seals.frames,
        length-append both.net_side.between.sealed.items (map (frame_of sealed net.keys) came_out),
        length-map came_out (frame_of sealed net.keys),
        ap length both.net_side.opens.untouched,
        ap length both.no_sealed,
        length-append came_out (pending_towards Net link'),
        ap length (comes_out order),
        few_sent old.address old.partition old.streams sends,
        both.few_sends,
      )

  -- the host's side hears all pieces of the unit's frames
  pub hears_whole : (last : HostView) (messages : MessagesView) → InOrder Host link'
      → Hears new last heard (pending_towards Host link') host_out'.messages messages
      → Hears both.host.between last 0 (pieces_in inbounds) host_out.messages messages
  hears_whole last messages order rest =
      let pending = pending_towards Host link' in
      let number : heard ≡ 0 + length (mine both.host.between came) =
      both.host.hears_some.count ∙ sym (zero-add (length (mine both.host.between came))) in
      let all : mine both.host.between came ++ pending ≡ pieces_in inbounds =
      ap (λ xs. xs ++ pending) (all_heard order) ∙ comes_in order in
      subst (λ xs. Hears both.host.between last 0 xs host_out.messages messages) all
      (hears_both (mine both.host.between came) pending both.host.between new last 0 host_out.messages
      host_out'.messages messages
      both.host.hears_some.hears (subst (λ n. Hears new last n pending host_out'.messages messages) number rest))

  pub stands_between : (h : ℕ → List PieceView) → StandsForAll old h → StandsForAll both.host.between h
  stands_between h stands = λ a lt partner.
      subst (λ (w : WindowView). windows.StandsFor w a (h a)) (sym both.host.sends_all.window)
      (stands a lt (sym (both.host.sends_all.names.2 a) ∙ partner))

  -- and the network's side seals all pieces of the accepted sends
  pub seals_whole : (last : NetOut) → InOrder Net link'
      → Seals sealed net.keys (pending_towards Net link') net_out' last
      → Seals sealed net.keys to_seal both.net_side.between last
  seals_whole last order rest =
      subst (λ xs. Seals sealed net.keys xs both.net_side.between last) (comes_out order)
      (seals_both sealed net.keys came_out (pending_towards Net link') both.net_side.between net_out' last
      both.net_side.seals_some.seals rest)
