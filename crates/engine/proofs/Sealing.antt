-- What a desk has sealed, after one more message.
use Rattle.std.proofs.Common.{◌≡◌, ◌≢◌, ℕ, ◌+◌, ◌<◌, List, [], ◌∷◌, ◌++◌, length, true, Option, Some, refl, sym, ◌∙◌, ap, ap₂, inl, inr, arith, length-append}
use Rattle.std.specs.Prelude.{slice_get, unwrap_or}
use Rattle.std.proofs.lemmas.List.{length-set, get_or-set_same, get_or-set_other}
use Rattle.levels.specs.declared.level.Party.{Party}
use Rattle.levels.specs.Rosters.{is_partner}
use Rattle.machine.specs.Setup.{Setup}
use Rattle.machine.specs.Machine.{State, address_of}
use Rattle.desk.specs.Wires.{WireView, messages_to, message_frames, with_message}
use Rattle.engine.specs.Handed.{frames_if}
use Rattle.engine.specs.States.{peer, WireIs}
use Rattle.engine.proofs.Cases.{nat_cases, not_both}
use Rattle.engine.proofs.Peers.{peer_address}
use Rattle.engine.proofs.Lists.{get_last, get_other}
use Rattle.engine.proofs.Streams.{with_sent, sent_there, sent_elsewhere}

-- the messages to an address read as the stream to it, which has one more
one_more_read : (own : List (List (List ℕ))) (new : List (List ℕ)) (messages : List (List ℕ))
    (message : List ℕ) (read : ℕ → Option (List ℕ) → List (List ℕ)) (j : ℕ)
    → length own ≡ length messages → read (length messages) (Some message) ≡ new
    → unwrap_or (slice_get own j) [] ≡ read j (slice_get messages j)
    → unwrap_or (slice_get (own ++ new ∷ []) j) [] ≡ read j (slice_get (messages ++ message ∷ []) j)
one_more_read own new messages message read j counted last old =
    elim (nat_cases j (length messages)) [
      | inl e ↦
          ap (λ k. unwrap_or (slice_get (own ++ new ∷ []) k) []) (e ∙ sym counted)
          ∙ ap (λ o. unwrap_or o []) (get_last own new)
          ∙ sym last
          ∙ ap (read (length messages)) (sym (get_last messages message))
          ∙ ap (λ k. read k (slice_get (messages ++ message ∷ []) k)) (sym e)
      | inr differ ↦
          ap (λ o. unwrap_or o []) (get_other own new j (λ e. differ (e ∙ counted)))
          ∙ old
          ∙ ap (read j) (sym (get_other messages message j differ))
    ]

-- ---- messages to an address

own_messages : (wire : WireView) (a : ℕ) (frames : List (List ℕ)) → a < length wire.messages
    → messages_to (with_message wire a frames) a ≡ messages_to wire a ++ frames ∷ []
own_messages wire a frames below =
    get_or-set_same wire.messages a (messages_to wire a ++ frames ∷ []) [] below

other_messages : (wire : WireView) (a b : ℕ) (frames : List (List ℕ)) → b ≢ a
    → messages_to (with_message wire a frames) b ≡ messages_to wire b
other_messages wire a b frames differ =
    get_or-set_other wire.messages a b (messages_to wire a ++ frames ∷ []) [] differ

-- whom u sees at two addresses are two
pub peers_differ : (m : Setup) (u : Party) (a b : ℕ) → b ≢ a → peer m u a ≢ peer m u b
peers_differ m u a b differ = λ e.
    differ (sym (peer_address m u b) ∙ ap address_of (sym e) ∙ peer_address m u a)

-- ---- one more message

-- the wire has one more message
pub sealed_more : (m : Setup) (x : State) (sent : List (List ℕ)) (u to : Party) (message : List ℕ)
    (wire : WireView) (a : ℕ) → a < 256 → peer m u a ≡ to → is_partner m.roster u to ≡ true
    → WireIs m x sent u wire
    → WireIs m (with_sent x u to message)
    (sent ++ frames_if m u to (length (x.sent u to)) (Some message)) u
    (with_message wire a (frames_if m u to (length (x.sent u to)) (Some message)))
sealed_more m x sent u to message wire a below seen partner w =
    let n = length (x.sent u to) in
    let new = frames_if m u to n (Some message) in
    let y = with_sent x u to message in
    let next = with_message wire a new in
    let rows = w.rows in
    let own : messages_to next a ≡ messages_to wire a ++ new ∷ [] =
    own_messages wire a new (omega (arith, below, rows)) in
    let counted : length (messages_to wire a) ≡ n =
    w.count a below (ap (is_partner m.roster u) seen ∙ partner)
    ∙ ap (λ r. length (x.sent u r)) seen in
    let told : y.sent u (peer m u a) ≡ x.sent u to ++ message ∷ [] =
    ap (y.sent u) seen ∙ sent_there x u to message in
    let before : (j : ℕ) → message_frames wire a j ≡ frames_if m u to j (slice_get (x.sent u to) j) =
    λ j. w.messages a j below (ap (is_partner m.roster u) seen ∙ partner)
    ∙ ap (λ r. frames_if m u r j (slice_get (x.sent u r) j)) seen in
    record {
      frames = ap (λ f. f ++ new) w.frames;
      rows = length-set wire.messages a (messages_to wire a ++ new ∷ []) ∙ w.rows;
      count = λ b lt partners. elim (nat_cases b a) [
        | inl e ↦ rw e (ap length own ∙ length-append (messages_to wire a) (new ∷ [])
            ∙ ap (λ k. k + 1) counted ∙ sym (length-append (x.sent u to) (message ∷ []))
            ∙ sym (ap length told))
        | inr differ ↦ ap length (other_messages wire a b new differ) ∙ w.count b lt partners
            ∙ ap length (sym (elsewhere m x u to message a b seen differ))
      ];
      messages = λ b j lt partners. elim (nat_cases b a) [
        | inl e ↦ rw e (ap (λ own_now. unwrap_or (slice_get own_now j) []) own
            ∙ one_more_read (messages_to wire a) new (x.sent u to) message
            (frames_if m u to) j counted refl (before j)
            ∙ ap₂ (λ r l. frames_if m u r j (slice_get l j)) (sym seen) (sym told))
        | inr differ ↦ ap (λ own_now. unwrap_or (slice_get own_now j) [])
            (other_messages wire a b new differ)
            ∙ w.messages b j lt partners
            ∙ ap (λ l. frames_if m u (peer m u b) j (slice_get l j))
            (sym (elsewhere m x u to message a b seen differ))
      ];
      others = λ b lt none. elim (nat_cases b a) [
        | inl e ↦ absurd (not_both (is_partner m.roster u (peer m u b))
            (ap (λ k. is_partner m.roster u (peer m u k)) e ∙ ap (is_partner m.roster u) seen ∙ partner)
            none)
        | inr differ ↦ other_messages wire a b new differ ∙ w.others b lt none
      ];
    }
  where
    elsewhere : (m : Setup) (x : State) (u to : Party) (message : List ℕ) (a b : ℕ)
        → peer m u a ≡ to → b ≢ a
        → (with_sent x u to message).sent u (peer m u b) ≡ x.sent u (peer m u b)
    elsewhere m x u to message a b seen differ =
        sent_elsewhere x u to message (peer m u b)
        (λ e. peers_differ m u a b differ (seen ∙ e))
