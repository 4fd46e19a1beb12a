-- Frames are found where they were sealed.
use Rattle.std.proofs.Common.{◌≡◌, ℕ, ◌+◌, ◌<◌, ◌≤◌, List, [], true, false, Option, Some, None, refl, sym, ap, ◌∙◌, ◌⊎◌, inl, inr, arith}
use Rattle.std.specs.Prelude.{slice_get, unwrap_or}
use Rattle.std.proofs.lemmas.Option.{same_Some}
use Rattle.levels.specs.declared.level.Party.{Party}
use Rattle.levels.specs.Kept.{IsRoster}
use Rattle.levels.specs.Rosters.{is_partner}
use Rattle.frame.specs.Pieces.{pieces}
use Rattle.events.specs.declared.event.Event.{Event}
use Rattle.events.specs.Scripts.{is_known}
use Rattle.machine.specs.Setup.{Setup}
use Rattle.machine.specs.Machine.{State, piece_frame, state}
use Rattle.machine.specs.FalseBytes.{IsSentFrame}
use Rattle.desk.specs.Wires.{WireView, message_frames}
use Rattle.desk.specs.Deeds.{address_in}
use Rattle.engine.specs.Handed.{frames_if, message_sent}
use Rattle.engine.specs.Turns.{partition_number}
use Rattle.engine.specs.States.{peer, WireIs}
use Rattle.engine.proofs.Cases.{bool_cases, not_both}
use Rattle.engine.specs.inside.Facts.{Laws}
use Rattle.engine.proofs.Peers.{peer_is, partner_address, seen_at}
use Rattle.engine.proofs.Places.{mapped_at, past_mapped}

-- nothing was sent to one who is no partner
pub nothing_there : Laws → (m : Setup) (past : List Event) (u r : Party) (j : ℕ)
    → is_partner m.roster u r ≡ false → slice_get ((state m past).sent u r) j ≡ None
nothing_there laws m past u r j none = by (slice_get ((state m past).sent u r) j) refl
  where
    by : (o : Option (List ℕ)) → slice_get ((state m past).sent u r) j ≡ o → o ≡ None
    by None is = refl
    by (Some body) is = absurd (not_both (is_partner m.roster u r)
        (laws.partner m past u r j body is) none)

-- what a desk has sealed for an address is what was sent to the party there
pub wire_reads : Laws → (m : Setup) (past : List Event) (sent : List (List ℕ)) (u : Party)
    (wire : WireView) (a j : ℕ) → a < 256 → WireIs m (state m past) sent u wire
    → message_frames wire a j ≡ message_sent m (state m past) (record { from = u; to = peer m u a }) j
wire_reads laws m past sent u wire a j lt is = by (bool_cases (is_partner m.roster u (peer m u a)))
  where
    by : (is_partner m.roster u (peer m u a) ≡ true) ⊎ (is_partner m.roster u (peer m u a) ≡ false)
        → message_frames wire a j
        ≡ message_sent m (state m past) (record { from = u; to = peer m u a }) j
    by (inl partner) = is.messages a j lt partner
    by (inr none) =
        ap (λ messages. unwrap_or (slice_get messages j) []) (is.others a lt none)
        ∙ sym (ap (frames_if m u (peer m u a) j) (nothing_there laws m past u (peer m u a) j none))

-- and what was sent to a party is found at its address
pub found_for : Laws → (m : Setup) (past : List Event) (u to : Party) (j : ℕ) → IsRoster m.roster
    → is_known m.roster to ≡ true
    → message_sent m (state m past)
    (record { from = u; to = peer m u (address_in (partition_number m u) to) }) j
    ≡ message_sent m (state m past) (record { from = u; to = to }) j
found_for laws m past u to j is known = by (bool_cases (is_partner m.roster u to))
  where
    by : (is_partner m.roster u to ≡ true) ⊎ (is_partner m.roster u to ≡ false)
        → message_sent m (state m past)
        (record { from = u; to = peer m u (address_in (partition_number m u) to) }) j
        ≡ message_sent m (state m past) (record { from = u; to = to }) j
    by (inl partner) =
        ap (λ r. message_sent m (state m past) (record { from = u; to = r }) j)
        (ap (peer m u) (partner_address laws m u to partner) ∙ peer_is laws m u to is partner)
    by (inr none) =
        let seen = peer m u (address_in (partition_number m u) to) in
        ap (frames_if m u seen j)
        (nothing_there laws m past u seen j (seen_at laws m u to is known ∙ none))
        ∙ sym (ap (frames_if m u to j) (nothing_there laws m past u to j none))

-- a frame that is found was sent
pub found_sent : (m : Setup) (x : State) (s r : Party) (j i : ℕ) (bytes : List ℕ)
    (o : Option (List ℕ)) → slice_get (x.sent s r) j ≡ o
    → slice_get (frames_if m s r j o) i ≡ Some bytes → IsSentFrame m x s r j i bytes
found_sent m x s r j i bytes None is found = cc
found_sent m x s r j i bytes (Some body) is found = by (lt_cases i (pieces body))
  where
    lt_cases : (a b : ℕ) → (a < b) ⊎ (b ≤ a)
    lt_cases a b = grind arith

    by : (i < pieces body) ⊎ (pieces body ≤ i) → IsSentFrame m x s r j i bytes
    by (inl lt) = record {
      body = body;
      sent = is;
      piece = lt;
      same = same_Some bytes (piece_frame m s r j body (0 + i))
          (sym found ∙ mapped_at (piece_frame m s r j body) 0 (pieces body) i lt)
          ∙ ap (piece_frame m s r j body) (let z : 0 + i ≡ i = omega arith in z);
    }
    by (inr le) =
        let gone = sym found ∙ past_mapped (piece_frame m s r j body) 0 (pieces body) i le in cc

-- a frame that was sent is found
pub sent_found : (m : Setup) (x : State) (s r : Party) (j i : ℕ) (bytes : List ℕ)
    → IsSentFrame m x s r j i bytes
    → slice_get (message_sent m x (record { from = s; to = r }) j) i ≡ Some bytes
sent_found m x s r j i bytes f =
    ap (λ o. slice_get (frames_if m s r j o) i) f.sent
    ∙ mapped_at (piece_frame m s r j f.body) 0 (pieces f.body) i f.piece
    ∙ ap (λ k. Some (piece_frame m s r j f.body k)) (let z : 0 + i ≡ i = omega arith in z)
    ∙ ap Some (sym f.same)
