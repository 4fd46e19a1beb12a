-- A desk's party sends a message.
use Rattle.std.proofs.Common.{◌≡◌, ℕ, ◌+◌, ◌<◌, ◌≤◌, List, [], ◌∷◌, ◌++◌, ◌&&◌, length, map, true, false, Option, Some, None, Result, Ok, Err, refl, sym, ◌∙◌, ap, ap₂, subst, inl, inr, arith, length-append}
use Rattle.std.specs.Prelude.{◌==◌, nat_lt, if◌then◌else◌, slice_get}
use Rattle.std.specs.List.{range_with_len}
use Rattle.std.proofs.Math.ListN.{get_or}
use Rattle.std.proofs.lemmas.List.{get_or_past, get_or-set_same, get_or-set_other}
use Rattle.std.proofs.lemmas.Bool.Decides.{nat_tests}
use Rattle.std.proofs.lemmas.Simd.{map-map}
use Rattle.levels.specs.declared.level.Party.{Party}
use Rattle.levels.specs.Kept.{IsRoster}
use Rattle.levels.specs.Rosters.{is_partner, is_same_party}
use Rattle.events.specs.Scripts.{is_known}
use Rattle.frame.specs.Pieces.{pieces, piece_of}
use Rattle.frame.specs.Frames.{frame_of}
use Rattle.frame.specs.declared.refused.SendRefused.{SendRefused}
use Rattle.frame.specs.declared.refused.SendRefused.TheVariants.{NoPartner, TooLong}
use Rattle.host_side.specs.Sending.{send_answer}
use Rattle.unit_core.specs.Views.{OutgoingView}
use Rattle.unit_core.specs.Sending.{with_number, pieces_for}
use Rattle.machine.specs.declared.line.OutLine.{OutLine}
use Rattle.machine.specs.declared.line.OutLine.TheVariants.{Sent, Refused}
use Rattle.machine.specs.Setup.{Setup}
use Rattle.machine.specs.Machine.{State, address_of, parties}
use Rattle.desk.specs.Wires.{with_message}
use Rattle.desk.specs.Deeds.{DeskState, address_in, outgoing, line_said, wire_said, said, did}
use Rattle.desk.specs.Deeds.Deed.{says}
use Rattle.engine.specs.Genuine.{AreGenuine}
use Rattle.engine.specs.Handed.{frames_if}
use Rattle.engine.specs.States.{peer, WireIs, StateIs}
use Rattle.engine.specs.Turns.{partition_number}
use Rattle.engine.proofs.Cases.{bool_cases, nat_cases, no}
use Rattle.engine.specs.inside.Facts.{Laws}
use Rattle.engine.proofs.Giving.{more_sent}
use Rattle.engine.proofs.Lists.{joined_same}
use Rattle.engine.proofs.Peers.{peer_is, seen_at, partner_address, address_below}
use Rattle.engine.proofs.Sealing.{peers_differ, sealed_more}
use Rattle.engine.proofs.Streams.{with_sent, sent_there, sent_elsewhere}

-- ---- answers

-- a send has had this answer
abbrev pub answered : DeskState → Party → OutgoingView → Result ℕ SendRefused → DeskState
answered st to send answer = record st {
  streams = with_number st.streams send.to answer;
  lines = st.lines ++ line_said to answer ∷ [];
  wire = wire_said st send answer;
}

-- the next number of the stream to an address, as u has it
abbrev next_to : Setup → State → Party → Party → Option ℕ
next_to m x u r = if is_partner m.roster u r then Some (length (x.sent u r)) else None

short_answer : (n k : ℕ) → k ≤ 5632 → n < 4294967295 → send_answer (Some n) k ≡ Ok n
short_answer n k short few =
    let within : nat_lt 5632 k ≡ false = grind (arith, nat_tests) in
    let more : (n == 4294967295) ≡ false = no n 4294967295 (λ e. absurd (omega (arith, e, few))) in
    rw (within, more) refl

long_answer : (n k : ℕ) → 5632 < k → send_answer (Some n) k ≡ Err TooLong
long_answer n k long =
    let beyond : nat_lt 5632 k ≡ true = grind (arith, nat_tests) in rw beyond refl

-- a stream that has a next number has its place
place_in : (streams : List (Option ℕ)) (a n : ℕ) → get_or streams a None ≡ Some n → a < length streams
place_in streams a n next = elim (bool_cases (nat_lt a (length streams))) [
  | inl there ↦ grind (arith, nat_tests)
  | inr past ↦
      let le : length streams ≤ a = grind (arith, nat_tests) in
      let none = get_or_past streams a None le in cc
]

-- what a send does, by its answer
says_is : (m : Setup) (x : State) (lines : List OutLine) (sent : List (List ℕ)) (u to : Party)
    (message : List ℕ) (st : DeskState) (next : Option ℕ) (answer : Result ℕ SendRefused)
    → StateIs m x lines sent u st
    → get_or st.streams (address_in (partition_number m u) to) None ≡ next
    → send_answer next (length message) ≡ answer
    → did st (says to message)
    ≡ answered st to (outgoing (partition_number m u) to message) answer
says_is m x lines sent u to message st next answer s next_is answer_is =
    ap (λ p. said st to (outgoing p to message)) s.partition
    ∙ ap (answered st to (outgoing (partition_number m u) to message))
    (ap (λ o. send_answer o (length message)) next_is ∙ answer_is)

-- ---- refused sends

refused_state : (m : Setup) (x : State) (lines : List OutLine) (sent : List (List ℕ)) (u to : Party)
    (send : OutgoingView) (st : DeskState) (why : SendRefused) → StateIs m x lines sent u st
    → StateIs m x (lines ++ Refused to why ∷ []) sent u (answered st to send (Err why))
refused_state m x lines sent u to send st why s = record {
  address = s.address;
  partition = s.partition;
  frame = s.frame;
  next = s.next;
  told = ap (λ l. l ++ Refused to why ∷ []) s.told;
  wires = s.wires;
  ours = s.ours;
  given = s.given;
  genuine = s.genuine;
}

-- a partner is at the address that a send to it has
peer_there : Laws → (m : Setup) (u to : Party) → IsRoster m.roster → is_partner m.roster u to ≡ true
    → peer m u (address_in (partition_number m u) to) ≡ to
peer_there laws m u to is partner =
    ap (peer m u) (partner_address laws m u to partner) ∙ peer_is laws m u to is partner

-- and the stream there has its next number
partner_next : Laws → (m : Setup) (x : State) (lines : List OutLine) (sent : List (List ℕ))
    (u to : Party) (st : DeskState) → IsRoster m.roster → is_partner m.roster u to ≡ true
    → StateIs m x lines sent u st
    → get_or st.streams (address_in (partition_number m u) to) None ≡ Some (length (x.sent u to))
partner_next laws m x lines sent u to st is partner s =
    let a = address_in (partition_number m u) to in
    let known = (laws.both_known m.roster u to partner).1 in
    s.next a (address_below laws m u to is known)
    ∙ ap (next_to m x u) (peer_there laws m u to is partner)
    ∙ rw partner refl

-- a send to no partner leaves all but a line
pub said_to_no_partner : Laws → (m : Setup) (x : State) (lines : List OutLine)
    (sent : List (List ℕ)) (u to : Party) (message : List ℕ) (st : DeskState)
    → IsRoster m.roster → is_known m.roster to ≡ true → is_partner m.roster u to ≡ false
    → StateIs m x lines sent u st
    → StateIs m x (lines ++ Refused to NoPartner ∷ []) sent u (did st (says to message))
said_to_no_partner laws m x lines sent u to message st is known none s =
    let send = outgoing (partition_number m u) to message in
    let unseen : is_partner m.roster u (peer m u send.to) ≡ false =
    seen_at laws m u to is known ∙ none in
    let next : get_or st.streams send.to None ≡ None =
    s.next send.to (address_below laws m u to is known) ∙ rw unseen refl in
    subst (StateIs m x (lines ++ Refused to NoPartner ∷ []) sent u)
    (sym (says_is m x lines sent u to message st None (Err NoPartner) s next refl))
    (refused_state m x lines sent u to send st NoPartner s)

-- and so does a message that is too long
pub said_too_much : Laws → (m : Setup) (x : State) (lines : List OutLine) (sent : List (List ℕ))
    (u to : Party) (message : List ℕ) (st : DeskState) → IsRoster m.roster
    → is_partner m.roster u to ≡ true → 5632 < length message → StateIs m x lines sent u st
    → StateIs m x (lines ++ Refused to TooLong ∷ []) sent u (did st (says to message))
said_too_much laws m x lines sent u to message st is partner long s =
    let n = length (x.sent u to) in
    let send = outgoing (partition_number m u) to message in
    subst (StateIs m x (lines ++ Refused to TooLong ∷ []) sent u)
    (sym (says_is m x lines sent u to message st (Some n) (Err TooLong) s
    (partner_next laws m x lines sent u to st is partner s)
    (long_answer n (length message) long)))
    (refused_state m x lines sent u to send st TooLong s)

-- ---- accepted sends

-- the frames of its pieces are those of the machine
its_frames : Laws → (m : Setup) (x : State) (lines : List OutLine) (sent : List (List ℕ))
    (u to : Party) (message : List ℕ) (st : DeskState) (n : ℕ) → is_partner m.roster u to ≡ true
    → StateIs m x lines sent u st
    → map st.frame (pieces_for st.address st.partition (outgoing (partition_number m u) to message)
    (Ok n)) ≡ frames_if m u to n (Some message)
its_frames laws m x lines sent u to message st n partner s =
    let p = partition_number m u in
    let places = range_with_len 0 (pieces message) in
    ap₂ (λ address q. map st.frame (map (piece_of address (address_in p to) q n message) places))
    s.address s.partition
    ∙ ap₂ (λ frame a. map frame (map (piece_of (address_of u) a p n message) places))
    s.frame (partner_address laws m u to partner)
    ∙ map-map (frame_of m.sealed (m.keys p)) (piece_of (address_of u) (address_of to) p n message)
    places

-- one more message to whom u sees at an address
accepted_state : (m : Setup) (x : State) (lines : List OutLine) (sent : List (List ℕ))
    (u to : Party) (send : OutgoingView) (st : DeskState) → send.to < 256
    → peer m u send.to ≡ to → is_partner m.roster u to ≡ true
    → map st.frame (pieces_for st.address st.partition send (Ok (length (x.sent u to))))
    ≡ frames_if m u to (length (x.sent u to)) (Some send.message)
    → StateIs m x lines sent u st
    → StateIs m (with_sent x u to send.message)
    (lines ++ Sent to (length (x.sent u to)) ∷ [])
    (sent ++ frames_if m u to (length (x.sent u to)) (Some send.message)) u
    (answered st to send (Ok (length (x.sent u to))))
accepted_state m x lines sent u to send st below seen partner frames s =
    let n = length (x.sent u to) in
    let y = with_sent x u to send.message in
    let new = frames_if m u to n (Some send.message) in
    let within = place_in st.streams send.to n
    (s.next send.to below ∙ ap (next_to m x u) seen ∙ rw partner refl) in
    record {
      address = s.address;
      partition = s.partition;
      frame = s.frame;
      next = λ b lt. elim (nat_cases b send.to) [
        | inl e ↦ rw e (get_or-set_same st.streams send.to (Some (n + 1)) None within
            ∙ ap Some (sym (length-append (x.sent u to) (send.message ∷ []))
            ∙ ap length (sym (sent_there x u to send.message)))
            ∙ rw partner refl
            ∙ ap (next_to m y u) (sym seen))
        | inr differ ↦ get_or-set_other st.streams send.to b (Some (n + 1)) None differ
            ∙ s.next b lt
            ∙ ap (λ messages. if is_partner m.roster u (peer m u b) then Some (length messages)
            else None)
            (sym (sent_elsewhere x u to send.message (peer m u b)
            (λ e. peers_differ m u send.to b differ (seen ∙ e))))
      ];
      told = ap (λ l. l ++ Sent to n ∷ []) s.told;
      wires = subst (λ f. WireIs m y (sent ++ new) u (with_message st.wire send.to f)) (sym frames)
          (sealed_more m x sent u to send.message st.wire send.to below seen partner s.wires);
      ours = s.ours;
      given = s.given;
      genuine = λ b lt partners.
          let r = peer m u b in
          more_sent (x.sent r u)
          (if is_same_party u r && is_same_party to u then send.message ∷ [] else [])
          (st.heard b) (x.arrived r u) (x.given r u) (s.genuine b lt partners);
    }

-- an accepted message has the next number of its stream, and its frames are sealed
pub said_accepted : Laws → (m : Setup) (x : State) (lines : List OutLine) (sent : List (List ℕ))
    (u to : Party) (message : List ℕ) (st : DeskState) → IsRoster m.roster
    → is_partner m.roster u to ≡ true → length message ≤ 5632
    → length (x.sent u to) < 4294967295 → StateIs m x lines sent u st
    → StateIs m (with_sent x u to message) (lines ++ Sent to (length (x.sent u to)) ∷ [])
    (sent ++ frames_if m u to (length (x.sent u to)) (Some message)) u (did st (says to message))
said_accepted laws m x lines sent u to message st is partner short few s =
    let n = length (x.sent u to) in
    let send = outgoing (partition_number m u) to message in
    let known = (laws.both_known m.roster u to partner).1 in
    subst (StateIs m (with_sent x u to message) (lines ++ Sent to n ∷ [])
    (sent ++ frames_if m u to n (Some message)) u)
    (sym (says_is m x lines sent u to message st (Some n) (Ok n) s
    (partner_next laws m x lines sent u to st is partner s)
    (short_answer n (length message) short few)))
    (accepted_state m x lines sent u to send st (address_below laws m u to is known)
    (peer_there laws m u to is partner) partner
    (its_frames laws m x lines sent u to message st n partner s) s)

-- ---- states that are alike at a party

-- a desk is where the machine is by what its party has sent, is sent, has received and was given
pub as_state : (m : Setup) (x y : State) (lines : List OutLine) (sent : List (List ℕ)) (u : Party)
    (st : DeskState) → ((r : Party) → y.sent u r ≡ x.sent u r)
    → ((s : Party) → y.sent s u ≡ x.sent s u) → ((s : Party) → y.arrived s u ≡ x.arrived s u)
    → ((s : Party) → y.given s u ≡ x.given s u)
    → StateIs m x lines sent u st → StateIs m y lines sent u st
as_state m x y lines sent u st own to_it arrived given s = record {
  address = s.address;
  partition = s.partition;
  frame = s.frame;
  next = λ a lt. s.next a lt
      ∙ ap (λ messages. if is_partner m.roster u (peer m u a) then Some (length messages) else None)
      (sym (own (peer m u a)));
  told = s.told;
  wires = record {
    frames = s.wires.frames;
    rows = s.wires.rows;
    count = λ a lt partners. s.wires.count a lt partners ∙ ap length (sym (own (peer m u a)));
    messages = λ a j lt partners. s.wires.messages a j lt partners
        ∙ ap (λ messages. frames_if m u (peer m u a) j (slice_get messages j))
        (sym (own (peer m u a)));
    others = s.wires.others;
  };
  ours = s.ours
      ∙ ap length (joined_same (λ r. x.arrived r u) (λ r. y.arrived r u) (parties m.roster)
      (λ r. sym (arrived r)));
  given = s.given
      ∙ ap length (joined_same (λ r. x.given r u) (λ r. y.given r u) (parties m.roster)
      (λ r. sym (given r)));
  genuine = λ a lt partners.
      let r = peer m u a in
      subst (λ messages. AreGenuine messages (st.heard a) (y.arrived r u) (y.given r u))
      (sym (to_it r))
      (subst (λ pairs. AreGenuine (x.sent r u) (st.heard a) pairs (y.given r u)) (sym (arrived r))
      (subst (AreGenuine (x.sent r u) (st.heard a) (x.arrived r u)) (sym (given r))
      (s.genuine a lt partners)));
}
