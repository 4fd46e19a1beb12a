-- What the frames of an event of the network do to the desk of the unit where it happens.
use Rattle.std.proofs.Common.{◌≡◌, ◌≢◌, ℕ, ◌+◌, ◌<◌, ◌≤◌, List, [], ◌∷◌, ◌++◌, map, true, false, Option, Some, None, refl, sym, ap, ap₂, subst, ◌∙◌, ◌⊎◌, inl, inr, arith}
use Rattle.std.specs.Prelude.{◌==◌, filter, slice_get, bytes_eq, option_to_list}
use Rattle.std.specs.List.{range_with_len, AllByRecursion}
use Rattle.std.proofs.lemmas.Bool.Decides.{nat_tests}
use Rattle.std.proofs.lemmas.Option.{same_Some}
use Rattle.std.proofs.lemmas.Slice.Eq.{bytes_eq-Decides}
use Rattle.levels.specs.declared.level.Party.{Party}
use Rattle.levels.specs.Rosters.{is_same_party, is_partner}
use Rattle.frame.specs.Pieces.{PieceView, pieces}
use Rattle.events.specs.declared.event.Stream.{Stream}
use Rattle.events.specs.declared.event.Event.{Event}
use Rattle.events.specs.declared.event.Event.TheVariants.{Send, Ask, Arrive, Carry, Forge, Tamper}
use Rattle.events.specs.Scripts.{is_known}
use Rattle.net_side.specs.NetView.{NetView}
use Rattle.net_side.specs.Nets.{IsInbound, has_opened}
use Rattle.net_side.specs.declared.inbound.Inbound.{Inbound}
use Rattle.net_side.specs.declared.inbound.Inbound.TheVariants.{Foreign, Closed, Malformed, NotMine, Ours}
use Rattle.unit_core.specs.Hearing.{AreInbound}
use Rattle.machine.specs.declared.line.OutLine.{OutLine}
use Rattle.machine.specs.Setup.{Setup}
use Rattle.machine.specs.Low.{place_of}
use Rattle.machine.specs.Machine.{State, address_of, is_between, piece_frame, hands, given_to, state}
use Rattle.machine.specs.FalseBytes.{IsSentFrame}
use Rattle.machine.specs.Laws.{HandsOver, HandsNothing, HandsOne}
use Rattle.desk.specs.Deeds.{DeskState, does, hearings}
use Rattle.engine.specs.Genuine.{AreGenuine}
use Rattle.engine.specs.Handed.{frames_if, message_sent, piece_sent, handed_frames}
use Rattle.engine.specs.Turns.{partition_number}
use Rattle.engine.specs.States.{peer, StateIs, NetIs}
use Rattle.engine.specs.inside.Events.{WasSent, AllShut, Harmless}
use Rattle.engine.proofs.Cases.{bool_cases, same_number, same_party, own_party, two_parties, all_two, all_three}
use Rattle.engine.proofs.Places.{filter_only, filter_below, filter_all, mapped_at, past_mapped, all_below}
use Rattle.engine.proofs.Hearing.{heard_pieces, hears_pieces, heard_some}
use Rattle.engine.specs.inside.Facts.{Laws, Fits}
use Rattle.engine.proofs.Peers.{peer_is}
use Rattle.engine.proofs.Inbounds.{its_piece, own_inbound, IsSilent, not_own, other_silent, all_silent, others_silent, all_own}
use Rattle.engine.proofs.Arriving.{places_of, comes_nothing, comes_one}
use Rattle.engine.specs.inside.Arrivals.{came, lines_given}

-- the desk of u has heard frames, as e has it
abbrev Heard : Setup → State → Event → List OutLine → List (List ℕ) → Party → DeskState → Type 0
Heard m x e lines sent u st =
    StateIs m (came m e x) (lines ++ lines_given (given_to m x e u)) sent u st

-- ---- frames that change nothing

unchanged : (m : Setup) (x : State) (e : Event) (lines : List OutLine) (sent : List (List ℕ))
    (u : Party) (st st' : DeskState) → HandsNothing m x e u → st' ≡ st
    → StateIs m x lines sent u st → Heard m x e lines sent u st'
unchanged m x e lines sent u st st' none same is =
    subst (Heard m x e lines sent u) (sym same) (comes_nothing m x e lines sent u st none is)

no_frames : (frames : List (List ℕ)) (ws : List Inbound) (st : DeskState) → frames ≡ []
    → does st (hearings frames ws) ≡ st
no_frames frames ws st none = ap (λ fs. does st (hearings fs ws)) none

pub shut_silent : (w : Inbound) → has_opened w ≡ false → IsSilent w
shut_silent Foreign shut = λ st. refl
shut_silent Closed shut = λ st. refl
shut_silent Malformed shut = λ st. refl
shut_silent NotMine shut = λ st. refl
shut_silent (Ours x) shut = cc

pub shut_all_silent : (ws : List Inbound) → AllShut ws → AllByRecursion IsSilent ws
shut_all_silent [] all = tt
shut_all_silent (w ∷ ws) all = (shut_silent w all.0, shut_all_silent ws all.1)

-- ---- frames of pieces of one message

abbrev pub a_sent_frame : (m : Setup) (x : State) (s r : Party) (j i : ℕ) (body : List ℕ)
    → slice_get (x.sent s r) j ≡ Some body → i < pieces body
    → IsSentFrame m x s r j i (piece_frame m s r j body i)
a_sent_frame m x s r j i body there lt = record {
  body = body;
  sent = there;
  piece = lt;
  same = refl;
}

-- pieces to another
others_come : Laws → (m : Setup) (past : List Event) (net : NetView) (s r u : Party) (j : ℕ)
    (body places : List ℕ) (ws : List Inbound) (st : DeskState) → Fits m past → NetIs m u net
    → is_known m.roster u ≡ true → r ≢ u → slice_get ((state m past).sent s r) j ≡ Some body
    → AllByRecursion (λ i. i < pieces body) places
    → AreInbound m.sealed net (map (piece_frame m s r j body) places) ws
    → does st (hearings (map (piece_frame m s r j body) places) ws) ≡ st
others_come laws m past net s r u j body places ws st fits is known differ there within are =
    all_silent (map (piece_frame m s r j body) places) ws st
    (others_silent m.sealed net (piece_frame m s r j body) places ws (λ i. i < pieces body)
    (λ i w lt in_w. other_silent laws m past net s r u j i (piece_frame m s r j body i) w fits is
    known (a_sent_frame m (state m past) s r j i body there lt) differ in_w) within are)

-- pieces to u
own_come : Laws → (m : Setup) (past : List Event) (net : NetView) (e : Event)
    (lines : List OutLine) (sent : List (List ℕ)) (s u : Party) (j : ℕ) (body places : List ℕ)
    (ws : List Inbound) (st : DeskState) → Fits m past → NetIs m u net
    → slice_get ((state m past).sent s u) j ≡ Some body
    → ((s' : Party) (j' i : ℕ) → HandsOver m (state m past) e s' u j' i → (s' ≡ s) × (j' ≡ j))
    → places_of m e s u j body ≡ places → AllByRecursion (λ i. i < pieces body) places
    → AreInbound m.sealed net (map (piece_frame m s u j body) places) ws
    → StateIs m (state m past) lines sent u st
    → Heard m (state m past) e lines sent u
    (does st (hearings (map (piece_frame m s u j body) places) ws))
own_come laws m past net e lines sent s u j body places ws st fits is there only placed within are stands =
    let x = state m past in
    let a = address_of s in
    let partners = laws.partner m past s u j body there in
    let known = laws.both_known m.roster s u partners in
    let back = laws.back m.roster u s ∙ partners in
    let at_s : peer m u a ≡ s = peer_is laws m u s fits.roster back in
    let one : HandsOne m x e s u j body =
    laws.one m x e s u j body fits.roster known.0 there only in
    let hold_ws : ws ≡ map (λ i. Ours (its_piece m s u j body i)) places =
    all_own m.sealed net (piece_frame m s u j body) (its_piece m s u j body) places ws
    (λ i. i < pieces body)
    (λ i w lt in_w. laws.once m.sealed net (piece_frame m s u j body i) w
    (Ours (its_piece m s u j body i)) fits.sealing in_w
    (own_inbound laws m past net s u j i (piece_frame m s u j body i) fits is
    (a_sent_frame m x s u j i body there lt))) within are in
    let hears : does st (hearings (map (piece_frame m s u j body) places) ws)
    ≡ heard_pieces a (address_of u) (partition_number m s) j body st places =
    ap (λ vs. does st (hearings (map (piece_frame m s u j body) places) vs)) hold_ws
    ∙ hears_pieces a (address_of u) (partition_number m s) j body (piece_frame m s u j body) places
    st in
    let genuine : AreGenuine (x.sent s u) (st.heard a) (x.arrived s u) (x.given s u) =
    subst (λ p. AreGenuine (x.sent p u) (st.heard a) (x.arrived p u) (x.given p u)) at_s
    (stands.genuine a (laws.address m.roster s fits.roster known.0)
    (ap (is_partner m.roster u) at_s ∙ back)) in
    let some = heard_some (x.sent s u) a (address_of u) (partition_number m s) j body
    (places_of m e s u j body) (x.arrived s u) (x.given s u) st laws.carries laws.hold there
    (subst (AllByRecursion (λ i. i < pieces body)) (sym placed) within) genuine in
    subst (Heard m x e lines sent u)
    (ap (heard_pieces a (address_of u) (partition_number m s) j body st) placed ∙ sym hears)
    (comes_one laws m past e lines sent s u j body st
    (heard_pieces a (address_of u) (partition_number m s) j body st (places_of m e s u j body))
    fits partners there one some stands)

-- ---- an Arrive

party_cases : (a b : Party) → (a ≡ b) ⊎ (a ≢ b)
party_cases a b = elim (bool_cases (is_same_party a b)) [
  | inl here ↦ inl (same_party a b here)
  | inr away ↦ inr (two_parties a b away)
]

-- what an Arrive names
arrive_names : (m : Setup) (x : State) (stream : Stream) (j i : ℕ) (at s u : Party) (j' i' : ℕ)
    → HandsOver m x (Arrive stream j i at) s u j' i'
    → (stream.from ≡ s) × (stream.to ≡ u) × (j ≡ j') × (i ≡ i')
arrive_names m x stream j i at s u j' i' h =
    let t = all_three (is_between stream at s u) (j == j') (i == i') h.hands in
    let b = all_three (is_same_party stream.from s) (is_same_party stream.to u) (is_same_party at u)
    t.0 in (
      same_party stream.from s b.0,
      same_party stream.to u b.1,
      same_number j j' t.1,
      same_number i i' t.2,
    )

carry_names : (m : Setup) (x : State) (stream : Stream) (j : ℕ) (at s u : Party) (j' i' : ℕ)
    → HandsOver m x (Carry stream j at) s u j' i'
    → (stream.from ≡ s) × (stream.to ≡ u) × (j ≡ j')
carry_names m x stream j at s u j' i' h =
    let t = all_two (is_between stream at s u) (j == j') h.hands in
    let b = all_three (is_same_party stream.from s) (is_same_party stream.to u) (is_same_party at u)
    t.0 in (
      same_party stream.from s b.0,
      same_party stream.to u b.1,
      same_number j j' t.1,
    )

arrives_none : Laws → (m : Setup) (x : State) (stream : Stream) (j i : ℕ) (u : Party)
    → slice_get (x.sent stream.from stream.to) j ≡ None
    → HandsNothing m x (Arrive stream j i u) u
arrives_none laws m x stream j i u none =
    laws.nothing m x (Arrive stream j i u) u (λ s j' i' h.
    (let t = arrive_names m x stream j i u s u j' i' h in
    let there : slice_get (x.sent stream.from stream.to) j ≡ Some h.body =
    ap₂ (λ (p q : Party). slice_get (x.sent p q) j) t.0 t.1 ∙ ap (slice_get (x.sent s u)) t.2 ∙ h.sent in
    let bad = sym none ∙ there in cc))

arrives_past : Laws → (m : Setup) (x : State) (stream : Stream) (j i : ℕ) (u : Party) (body : List ℕ)
    → slice_get (x.sent stream.from stream.to) j ≡ Some body → pieces body ≤ i
    → HandsNothing m x (Arrive stream j i u) u
arrives_past laws m x stream j i u body is le =
    laws.nothing m x (Arrive stream j i u) u (λ s j' i' h.
    (let t = arrive_names m x stream j i u s u j' i' h in
    let there : slice_get (x.sent stream.from stream.to) j ≡ Some h.body =
    ap₂ (λ (p q : Party). slice_get (x.sent p q) j) t.0 t.1 ∙ ap (slice_get (x.sent s u)) t.2 ∙ h.sent in
    let same : body ≡ h.body = same_Some body h.body (sym is ∙ there) in
    let lt = h.piece in
    let count : pieces body ≡ pieces h.body = ap pieces same in
    let place = t.3 in absurd (omega (arith, lt, count, place, le))))

arrives_away : Laws → (m : Setup) (x : State) (stream : Stream) (j i : ℕ) (u : Party)
    → stream.to ≢ u → HandsNothing m x (Arrive stream j i u) u
arrives_away laws m x stream j i u differ =
    laws.nothing m x (Arrive stream j i u) u (λ s j' i' h.
    differ (arrive_names m x stream j i u s u j' i' h).1)

only_arrives : (m : Setup) (x : State) (s u : Party) (j i : ℕ) (body : List ℕ) → i < pieces body
    → places_of m (Arrive (record { from = s; to = u }) j i u) s u j body ≡ i ∷ []
only_arrives m x s u j i body lt =
    let e = Arrive (record { from = s; to = u }) j i u in
    filter_only (hands m e s u j body) i 0 (pieces body) (is_handed m s u j i body)
    (λ k h. sym (same_number i k (all_three (is_between (record { from = s; to = u }) u s u) (j == j)
    (i == k) h).2)) (omega arith) (omega (arith, lt))
  where
    is_handed : (m : Setup) (s u : Party) (j i : ℕ) (body : List ℕ)
        → hands m (Arrive (record { from = s; to = u }) j i u) s u j body i ≡ true
    is_handed m s u j i body =
        let own_s = own_party s in
        let own_u = own_party u in
        rw (own_s, own_u) (grind (arith, nat_tests))

arrive_to : Laws → (m : Setup) (past : List Event) (net : NetView) (lines : List OutLine)
    (sent : List (List ℕ)) (s r u : Party) (j i : ℕ) (body : List ℕ) (ws : List Inbound)
    (st : DeskState) → Fits m past → NetIs m u net → is_known m.roster u ≡ true
    → slice_get ((state m past).sent s r) j ≡ Some body → i < pieces body
    → AreInbound m.sealed net (piece_frame m s r j body i ∷ []) ws
    → StateIs m (state m past) lines sent u st
    → (r ≡ u) ⊎ (r ≢ u)
    → Heard m (state m past) (Arrive (record { from = s; to = r }) j i u) lines sent u
    (does st (hearings (piece_frame m s r j body i ∷ []) ws))
arrive_to laws m past net lines sent s r u j i body ws st fits is known there lt are stands (inr away) =
    unchanged m (state m past) (Arrive (record { from = s; to = r }) j i u) lines sent u st
    (does st (hearings (piece_frame m s r j body i ∷ []) ws))
    (arrives_away laws m (state m past) (record { from = s; to = r }) j i u away)
    (others_come laws m past net s r u j body (i ∷ []) ws st fits is known away there (lt, tt) are) stands
arrive_to laws m past net lines sent s r u j i body ws st fits is known there lt are stands (inl same) =
    subst (λ q. Heard m (state m past) (Arrive (record { from = s; to = q }) j i u) lines sent u
    (does st (hearings (piece_frame m s q j body i ∷ []) ws))) (sym same)
    (own_come laws m past net (Arrive (record { from = s; to = u }) j i u) lines sent s u j body
    (i ∷ []) ws st fits is (subst (λ q. slice_get ((state m past).sent s q) j ≡ Some body) same there)
    (λ s' j' i' h. (let t = arrive_names m (state m past) (record { from = s; to = u }) j i u s' u j' i' h in
    (sym t.0, sym t.2)))
    (only_arrives m (state m past) s u j i body lt) (lt, tt)
    (subst (λ q. AreInbound m.sealed net (piece_frame m s q j body i ∷ []) ws) same are) stands)

arrives : Laws → (m : Setup) (past : List Event) (net : NetView) (lines : List OutLine)
    (sent : List (List ℕ)) (stream : Stream) (j i : ℕ) (u : Party) (ws : List Inbound)
    (st : DeskState) (o : Option (List ℕ)) → Fits m past → NetIs m u net → is_known m.roster u ≡ true
    → slice_get ((state m past).sent stream.from stream.to) j ≡ o
    → AreInbound m.sealed net (piece_sent m (state m past) stream j i) ws
    → StateIs m (state m past) lines sent u st
    → Heard m (state m past) (Arrive stream j i u) lines sent u
    (does st (hearings (piece_sent m (state m past) stream j i) ws))
arrives laws m past net lines sent stream j i u ws st None fits is known there are stands =
    let x = state m past in
    let none : piece_sent m x stream j i ≡ [] =
    ap (λ o. option_to_list (slice_get (frames_if m stream.from stream.to j o) i)) there in
    unchanged m x (Arrive stream j i u) lines sent u st
    (does st (hearings (piece_sent m x stream j i) ws))
    (arrives_none laws m x stream j i u there) (no_frames (piece_sent m x stream j i) ws st none) stands
arrives laws m past net lines sent stream j i u ws st (Some body) fits is known there are stands =
    let x = state m past in
    let frame = piece_frame m stream.from stream.to j body in
    let at : piece_sent m x stream j i
    ≡ option_to_list (slice_get (map frame (range_with_len 0 (pieces body))) i) =
    ap (λ o. option_to_list (slice_get (frames_if m stream.from stream.to j o) i)) there in
    elim (lt_cases i (pieces body)) [
      | inl lt ↦
          let one : piece_sent m x stream j i ≡ frame i ∷ [] =
          at ∙ ap option_to_list (mapped_at frame 0 (pieces body) i lt)
          ∙ ap (λ k. frame k ∷ []) (let z : 0 + i ≡ i = omega arith in z) in
          subst (λ fs. Heard m x (Arrive stream j i u) lines sent u (does st (hearings fs ws)))
          (sym one)
          (arrive_to laws m past net lines sent stream.from stream.to u j i body ws st fits is known
          there lt (subst (λ fs. AreInbound m.sealed net fs ws) one are) stands
          (party_cases stream.to u))
      | inr le ↦
          let none : piece_sent m x stream j i ≡ [] =
          at ∙ ap option_to_list (past_mapped frame 0 (pieces body) i le) in
          unchanged m x (Arrive stream j i u) lines sent u st
          (does st (hearings (piece_sent m x stream j i) ws))
          (arrives_past laws m x stream j i u body there le)
          (no_frames (piece_sent m x stream j i) ws st none) stands
    ]
  where
    lt_cases : (a b : ℕ) → (a < b) ⊎ (b ≤ a)
    lt_cases a b = grind arith

-- ---- a Carry

carries_none : Laws → (m : Setup) (x : State) (stream : Stream) (j : ℕ) (u : Party)
    → slice_get (x.sent stream.from stream.to) j ≡ None → HandsNothing m x (Carry stream j u) u
carries_none laws m x stream j u none =
    laws.nothing m x (Carry stream j u) u (λ s j' i' h.
    (let t = carry_names m x stream j u s u j' i' h in
    let there : slice_get (x.sent stream.from stream.to) j ≡ Some h.body =
    ap₂ (λ (p q : Party). slice_get (x.sent p q) j) t.0 t.1 ∙ ap (slice_get (x.sent s u)) t.2 ∙ h.sent in
    let bad = sym none ∙ there in cc))

carries_away : Laws → (m : Setup) (x : State) (stream : Stream) (j : ℕ) (u : Party)
    → stream.to ≢ u → HandsNothing m x (Carry stream j u) u
carries_away laws m x stream j u differ =
    laws.nothing m x (Carry stream j u) u (λ s j' i' h.
    differ (carry_names m x stream j u s u j' i' h).1)

all_carried : (m : Setup) (s u : Party) (j : ℕ) (body : List ℕ)
    → places_of m (Carry (record { from = s; to = u }) j u) s u j body
    ≡ range_with_len 0 (pieces body)
all_carried m s u j body =
    let e = Carry (record { from = s; to = u }) j u in
    filter_all (hands m e s u j body) 0 (pieces body) (is_handed m s u j body)
  where
    is_handed : (m : Setup) (s u : Party) (j : ℕ) (body : List ℕ) (i : ℕ)
        → hands m (Carry (record { from = s; to = u }) j u) s u j body i ≡ true
    is_handed m s u j body i =
        let own_s = own_party s in
        let own_u = own_party u in
        rw (own_s, own_u) (grind (arith, nat_tests))

carry_to : Laws → (m : Setup) (past : List Event) (net : NetView) (lines : List OutLine)
    (sent : List (List ℕ)) (s r u : Party) (j : ℕ) (body : List ℕ) (ws : List Inbound)
    (st : DeskState) → Fits m past → NetIs m u net → is_known m.roster u ≡ true
    → slice_get ((state m past).sent s r) j ≡ Some body
    → AreInbound m.sealed net (frames_if m s r j (Some body)) ws
    → StateIs m (state m past) lines sent u st
    → (r ≡ u) ⊎ (r ≢ u)
    → Heard m (state m past) (Carry (record { from = s; to = r }) j u) lines sent u
    (does st (hearings (frames_if m s r j (Some body)) ws))
carry_to laws m past net lines sent s r u j body ws st fits is known there are stands (inr away) =
    unchanged m (state m past) (Carry (record { from = s; to = r }) j u) lines sent u st
    (does st (hearings (frames_if m s r j (Some body)) ws))
    (carries_away laws m (state m past) (record { from = s; to = r }) j u away)
    (others_come laws m past net s r u j body (range_with_len 0 (pieces body)) ws st fits is known away
    there (all_below 0 (pieces body) (pieces body) (omega arith)) are) stands
carry_to laws m past net lines sent s r u j body ws st fits is known there are stands (inl same) =
    subst (λ q. Heard m (state m past) (Carry (record { from = s; to = q }) j u) lines sent u
    (does st (hearings (frames_if m s q j (Some body)) ws))) (sym same)
    (own_come laws m past net (Carry (record { from = s; to = u }) j u) lines sent s u j body
    (range_with_len 0 (pieces body)) ws st fits is
    (subst (λ q. slice_get ((state m past).sent s q) j ≡ Some body) same there)
    (λ s' j' i' h. (let t = carry_names m (state m past) (record { from = s; to = u }) j u s' u j' i' h in
    (sym t.0, sym t.2)))
    (all_carried m s u j body) (all_below 0 (pieces body) (pieces body) (omega arith))
    (subst (λ q. AreInbound m.sealed net (frames_if m s q j (Some body)) ws) same are) stands)

is_carried : Laws → (m : Setup) (past : List Event) (net : NetView) (lines : List OutLine)
    (sent : List (List ℕ)) (stream : Stream) (j : ℕ) (u : Party) (ws : List Inbound)
    (st : DeskState) (o : Option (List ℕ)) → Fits m past → NetIs m u net → is_known m.roster u ≡ true
    → slice_get ((state m past).sent stream.from stream.to) j ≡ o
    → AreInbound m.sealed net (message_sent m (state m past) stream j) ws
    → StateIs m (state m past) lines sent u st
    → Heard m (state m past) (Carry stream j u) lines sent u
    (does st (hearings (message_sent m (state m past) stream j) ws))
is_carried laws m past net lines sent stream j u ws st None fits is known there are stands =
    let x = state m past in
    let none : message_sent m x stream j ≡ [] = ap (frames_if m stream.from stream.to j) there in
    unchanged m x (Carry stream j u) lines sent u st
    (does st (hearings (message_sent m x stream j) ws))
    (carries_none laws m x stream j u there) (no_frames (message_sent m x stream j) ws st none) stands
is_carried laws m past net lines sent stream j u ws st (Some body) fits is known there are stands =
    let x = state m past in
    let all : message_sent m x stream j ≡ frames_if m stream.from stream.to j (Some body) =
    ap (frames_if m stream.from stream.to j) there in
    subst (λ fs. Heard m x (Carry stream j u) lines sent u (does st (hearings fs ws))) (sym all)
    (carry_to laws m past net lines sent stream.from stream.to u j body ws st fits is known there
    (subst (λ fs. AreInbound m.sealed net fs ws) all are) stands (party_cases stream.to u))

-- ---- a Forge

-- all that a forged frame can be is the frame of one piece
forged_alone : Laws → (m : Setup) (past : List Event) (s u : Party) (j i : ℕ) (bytes : List ℕ)
    → Fits m past → IsSentFrame m (state m past) s u j i bytes
    → (s' : Party) (j' i' : ℕ) → HandsOver m (state m past) (Forge u bytes) s' u j' i'
    → (s' ≡ s) × (j' ≡ j) × (i' ≡ i)
forged_alone laws m past s u j i bytes fits f s' j' i' h =
    let t = all_two (is_same_party u u) (bytes_eq bytes (piece_frame m s' u j' h.body i')) h.hands in
    let t' : IsSentFrame m (state m past) s' u j' i' bytes = record {
      body = h.body;
      sent = h.sent;
      piece = h.piece;
      same = (bytes_eq-Decides bytes (piece_frame m s' u j' h.body i')).0 t.1;
    } in
    fits.apart s' s u j' j i' i bytes t' f

is_forged : (m : Setup) (u : Party) (bytes : List ℕ) (s : Party) (j i : ℕ) (body : List ℕ)
    → bytes ≡ piece_frame m s u j body i → hands m (Forge u bytes) s u j body i ≡ true
is_forged m u bytes s j i body same =
    let own_u = own_party u in
    rw (own_u, (bytes_eq-Decides bytes (piece_frame m s u j body i)).1 same) refl

only_forged : Laws → (m : Setup) (past : List Event) (s u : Party) (j i : ℕ) (bytes : List ℕ)
    → Fits m past → (f : IsSentFrame m (state m past) s u j i bytes)
    → places_of m (Forge u bytes) s u j f.body ≡ i ∷ []
only_forged laws m past s u j i bytes fits f =
    let lt = f.piece in
    only (pieces f.body) refl (omega (arith, lt))
  where
    at_k : (k : ℕ) → k < pieces f.body → hands m (Forge u bytes) s u j f.body k ≡ true → k ≡ i
    at_k k lt h =
        (forged_alone laws m past s u j i bytes fits f s j k (record {
          body = f.body;
          sent = f.sent;
          piece = lt;
          hands = h;
        })).2

    only : (n : ℕ) → pieces f.body ≡ n → i < n
        → filter (hands m (Forge u bytes) s u j f.body) (range_with_len 0 n) ≡ i ∷ []
    only n count lt = filter_below (hands m (Forge u bytes) s u j f.body) i 0 n
        (is_forged m u bytes s j i f.body f.same)
        (λ k below h. at_k k (omega (arith, below, count)) h) (omega arith) (omega (arith, lt))

forges_nothing : Laws → (m : Setup) (past : List Event) (net : NetView) (u : Party)
    (bytes : List ℕ) (w : Inbound) → Fits m past → NetIs m u net
    → IsInbound m.sealed net bytes w → ((x : PieceView) → w ≢ Ours x)
    → HandsNothing m (state m past) (Forge u bytes) u
forges_nothing laws m past net u bytes w fits is in_w not_ours =
    laws.nothing m (state m past) (Forge u bytes) u (λ s j i h.
    (let t = all_two (is_same_party u u) (bytes_eq bytes (piece_frame m s u j h.body i)) h.hands in
    let f : IsSentFrame m (state m past) s u j i bytes = record {
      body = h.body;
      sent = h.sent;
      piece = h.piece;
      same = (bytes_eq-Decides bytes (piece_frame m s u j h.body i)).0 t.1;
    } in
    not_ours (its_piece m s u j h.body i)
    (laws.once m.sealed net bytes w (Ours (its_piece m s u j h.body i)) fits.sealing in_w
    (own_inbound laws m past net s u j i bytes fits is f))))

shut_not_ours : (w : Inbound) → has_opened w ≡ false → (x : PieceView) → w ≢ Ours x
shut_not_ours w shut x same = let bad : has_opened w ≡ true = ap has_opened same in cc

forged_from : Laws → (m : Setup) (past : List Event) (net : NetView) (lines : List OutLine)
    (sent : List (List ℕ)) (s r u : Party) (j i : ℕ) (bytes : List ℕ) (ws : List Inbound)
    (st : DeskState) → Fits m past → NetIs m u net → is_known m.roster u ≡ true
    → IsSentFrame m (state m past) s r j i bytes
    → AreInbound m.sealed net (bytes ∷ []) ws → StateIs m (state m past) lines sent u st
    → (r ≡ u) ⊎ (r ≢ u)
    → Heard m (state m past) (Forge u bytes) lines sent u (does st (hearings (bytes ∷ []) ws))
forged_from laws m past net lines sent s r u j i bytes [] st fits is known f are stands same = absurd are
forged_from laws m past net lines sent s r u j i bytes (w ∷ ws) st fits is known f are stands (inr away) =
    unchanged m (state m past) (Forge u bytes) lines sent u st
    (does st (hearings (bytes ∷ []) (w ∷ ws)))
    (forges_nothing laws m past net u bytes w fits is are.0 (λ x same.
    not_own laws m past net s r u j i bytes x fits is known f away
    (subst (IsInbound m.sealed net bytes) same are.0)))
    (other_silent laws m past net s r u j i bytes w fits is known f away are.0 st) stands
forged_from laws m past net lines sent s r u j i bytes (w ∷ ws) st fits is known f are stands (inl same) =
    let f' : IsSentFrame m (state m past) s u j i bytes =
    subst (λ q. IsSentFrame m (state m past) s q j i bytes) same f in
    subst (λ b. Heard m (state m past) (Forge u bytes) lines sent u
    (does st (hearings (b ∷ []) (w ∷ ws)))) (sym f'.same)
    (own_come laws m past net (Forge u bytes) lines sent s u j f'.body (i ∷ []) (w ∷ ws) st fits is
    f'.sent (λ s' j' i' h. (let t = forged_alone laws m past s u j i bytes fits f' s' j' i' h in
    (t.0, t.1)))
    (only_forged laws m past s u j i bytes fits f') (f'.piece, tt)
    (subst (λ b. AreInbound m.sealed net (b ∷ []) (w ∷ ws)) f'.same are) stands)

is_shut : (w : Inbound) (ws : List Inbound) → AllShut (w ∷ ws) → has_opened w ≡ false
is_shut w ws all = all.0

is_forged_frame : Laws → (m : Setup) (past : List Event) (net : NetView) (lines : List OutLine)
    (sent : List (List ℕ)) (u : Party) (bytes : List ℕ) (ws : List Inbound) (st : DeskState)
    → Fits m past → NetIs m u net → is_known m.roster u ≡ true
    → WasSent m (state m past) bytes ⊎ AllShut ws
    → AreInbound m.sealed net (bytes ∷ []) ws → StateIs m (state m past) lines sent u st
    → Heard m (state m past) (Forge u bytes) lines sent u (does st (hearings (bytes ∷ []) ws))
is_forged_frame laws m past net lines sent u bytes ws st fits is known (inl was) are stands =
    forged_from laws m past net lines sent was.from was.to u was.number was.piece bytes ws st fits is
    known was.is are stands (party_cases was.to u)
is_forged_frame laws m past net lines sent u bytes [] st fits is known (inr shut) are stands = absurd are
is_forged_frame laws m past net lines sent u bytes (w ∷ ws) st fits is known (inr shut) are stands =
    unchanged m (state m past) (Forge u bytes) lines sent u st
    (does st (hearings (bytes ∷ []) (w ∷ ws)))
    (forges_nothing laws m past net u bytes w fits is are.0 (shut_not_ours w shut.0))
    (shut_silent w shut.0 st) stands

-- ---- all events

not_handed : Laws → (m : Setup) (x : State) (e : Event) (u : Party)
    → ((s : Party) (j : ℕ) (body : List ℕ) (i : ℕ) → hands m e s u j body i ≡ false)
    → HandsNothing m x e u
not_handed laws m x e u none = laws.nothing m x e u (λ s j i h.
    (let on = h.hands in let off = none s j h.body i in cc))

-- the desk of the unit where an event happens hears what it hands over
pub hears_event : Laws → (m : Setup) (past : List Event) (net : NetView) (e : Event)
    (lines : List OutLine) (sent : List (List ℕ)) (u : Party) (ws : List Inbound) (st : DeskState)
    → Fits m past → NetIs m u net → is_known m.roster u ≡ true → place_of e ≡ u
    → Harmless m (state m past) e ws
    → AreInbound m.sealed net (handed_frames m (state m past) e) ws
    → StateIs m (state m past) lines sent u st
    → Heard m (state m past) e lines sent u
    (does st (hearings (handed_frames m (state m past) e) ws))
hears_event laws m past net (Arrive stream j i at) lines sent u ws st fits is known place harm are stands =
    subst (λ v. Heard m (state m past) (Arrive stream j i v) lines sent u
    (does st (hearings (piece_sent m (state m past) stream j i) ws))) (sym place)
    (arrives laws m past net lines sent stream j i u ws st
    (slice_get ((state m past).sent stream.from stream.to) j) fits is known refl are stands)
hears_event laws m past net (Carry stream j at) lines sent u ws st fits is known place harm are stands =
    subst (λ v. Heard m (state m past) (Carry stream j v) lines sent u
    (does st (hearings (message_sent m (state m past) stream j) ws))) (sym place)
    (is_carried laws m past net lines sent stream j u ws st
    (slice_get ((state m past).sent stream.from stream.to) j) fits is known refl are stands)
hears_event laws m past net (Forge at bytes) lines sent u ws st fits is known place harm are stands =
    subst (λ v. Heard m (state m past) (Forge v bytes) lines sent u
    (does st (hearings (bytes ∷ []) ws))) (sym place)
    (is_forged_frame laws m past net lines sent u bytes ws st fits is known harm are stands)
hears_event laws m past net (Tamper stream j i at edits) lines sent u ws st fits is known place harm are stands =
    unchanged m (state m past) (Tamper stream j i at edits) lines sent u st
    (does st (hearings (handed_frames m (state m past) (Tamper stream j i at edits)) ws))
    (not_handed laws m (state m past) (Tamper stream j i at edits) u (λ s k body n. refl))
    (all_silent (handed_frames m (state m past) (Tamper stream j i at edits)) ws st
    (shut_all_silent ws harm)) stands
hears_event laws m past net (Send from to message) lines sent u ws st fits is known place harm are stands =
    unchanged m (state m past) (Send from to message) lines sent u st st
    (not_handed laws m (state m past) (Send from to message) u (λ s k body n. refl)) refl stands
hears_event laws m past net (Ask from call) lines sent u ws st fits is known place harm are stands =
    unchanged m (state m past) (Ask from call) lines sent u st st
    (not_handed laws m (state m past) (Ask from call) u (λ s k body n. refl)) refl stands
